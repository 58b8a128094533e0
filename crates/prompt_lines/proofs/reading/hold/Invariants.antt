use Rattle.std.proofs.Common.{◌≡◌, ◌≤◌, ◌++◌, length, take}
use Rattle.prompt_lines.specs.Words.{held_text}
use Rattle.prompt_lines.proofs.reading.hold.Given as goal

abbrev pub invariant-loop-byte : goal.invariant-loop-byte
invariant-loop-byte l = (l.held.items ≡ held_text (l.initial.held.items ++ take l.byte-index l.bytes)) × (length l.held.items ≤ 257)
