-- the bytes before this one were written
use Rattle.std.proofs.Common.{◌≡◌, false, take}
use Rattle.std.specs.Prelude.{flat_map}
use Rattle.std.specs.Io.KnownBytes.{Appends}
use Rattle.json_texts.specs.Json.{byte_text}
use Rattle.json_texts.proofs.strings.write_string.Given as goal

abbrev pub invariant-loop-byte : goal.invariant-loop-byte
invariant-loop-byte g l =
    Appends (g.O.AnswerWriter.written l.initial.writer) (g.O.AnswerWriter.written l.writer) (flat_map (byte_text l.is_text) (take l.byte-index l.bytes)) × (g.O.AnswerWriter.has_failed l.writer ≡ false)
