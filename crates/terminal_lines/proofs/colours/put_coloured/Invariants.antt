-- the front of the line up to this byte was added
use Rattle.std.proofs.Common.{take}
use Rattle.terminal_lines.proofs.WithoutCodes.{Adds}
use Rattle.terminal_lines.proofs.colours.put_coloured.Given as goal

abbrev pub invariant-loop-at : goal.invariant-loop-at
invariant-loop-at l = Adds l.initial.into.items l.line (take l.at l.line) l.into.items
