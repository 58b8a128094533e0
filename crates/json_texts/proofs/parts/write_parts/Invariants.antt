-- the parts before this one were written
use Rattle.std.proofs.Common.{◌≡◌, false, take}
use Rattle.std.specs.Prelude.{flat_map}
use Rattle.std.specs.Io.KnownBytes.{Appends}
use Rattle.json_texts.specs.Json.{part_text}
use Rattle.json_texts.proofs.parts.write_parts.Given as goal

abbrev pub invariant-loop-part : goal.invariant-loop-part
invariant-loop-part g l =
    Appends (g.O.AnswerWriter.written l.initial.writer) (g.O.AnswerWriter.written l.writer) (flat_map part_text (take l.part-index l.parts)) × (g.O.AnswerWriter.has_failed l.writer ≡ false)
