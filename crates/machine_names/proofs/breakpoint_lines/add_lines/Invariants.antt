-- the lines of the steps before this one were added
use Rattle.std.proofs.Common.{◌≡◌, ◌++◌, take, map}
use Rattle.machine_names.proofs.breakpoint_lines.add_lines.Given as goal

abbrev pub invariant-loop-standing : goal.invariant-loop-standing
invariant-loop-standing l = l.lines.items ≡ l.fn.lines.items ++ map (λ s. s.place.line) (take l.standing-index l.standings)
