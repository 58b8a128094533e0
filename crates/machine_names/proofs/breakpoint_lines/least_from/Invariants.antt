-- the least line so far and that of the lines to come are that of all
use Rattle.std.proofs.Common.{◌≡◌, drop}
use Rattle.gang_model.specs.Debugger.Debugger.{least_from}
use Rattle.machine_names.proofs.LeastLines.{joined}
use Rattle.machine_names.proofs.breakpoint_lines.least_from.Given as goal

abbrev pub invariant-loop-line : goal.invariant-loop-line
invariant-loop-line l = joined l.least (least_from l.from (drop l.line-index l.lines)) ≡ least_from l.from l.lines
