-- the least line so far and that of the steps to come are that of all
use Rattle.std.proofs.Common.{◌≡◌, drop, map}
use Rattle.gang_model.specs.Debugger.Debugger.{least_from}
use Rattle.function_lines.proofs.StepLines.{joined}
use Rattle.function_lines.proofs.lines.least_line.Given as goal

abbrev pub invariant-loop-standing : goal.invariant-loop-standing
invariant-loop-standing l = joined l.least (least_from 0 (map (λ s. s.place.line) (drop l.standing-index l.standings))) ≡ least_from 0 (map (λ s. s.place.line) l.standings)
