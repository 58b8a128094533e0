-- the lines of the texts so far
use Rattle.std.proofs.Common.{◌≡◌, map, string_bytes, take}
use Rattle.adapter_server.specs.Writing.{console_line}
use Rattle.adapter_server.proofs.writing.text_lines.Given as goal

abbrev pub invariant-loop-text : goal.invariant-loop-text
invariant-loop-text l = map string_bytes l.lines.items ≡ map console_line (map string_bytes (take l.text-index l.texts))
