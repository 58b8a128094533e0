-- the lines that were found, and those behind
use Rattle.std.proofs.Common.{◌≡◌, ◌≤◌, ◌++◌, drop, length}
use Rattle.prompt_stops.specs.Listed.{lines_of}
use Rattle.prompt_stops.proofs.lists.lines_of.Given as goal

abbrev pub invariant-loop-line : goal.invariant-loop-line
invariant-loop-line l = (l.found.items ++ lines_of l.number (drop l.line-index l.lines) ≡ lines_of l.number l.lines) × (length l.found.items ≤ l.line-index)
