-- the names before this one were written
use Rattle.std.proofs.Common.{◌≡◌, false, map, take}
use Rattle.std.specs.Io.KnownBytes.{Appends}
use Rattle.json_texts.specs.Json.{string_text}
use Rattle.json_texts.proofs.Listing.{joined}
use Rattle.run_page.proofs.writing.write_functions.Given as goal

abbrev pub invariant-loop-number : goal.invariant-loop-number
invariant-loop-number g l =
    Appends (g.O.AnswerWriter.written l.initial.writer) (g.O.AnswerWriter.written l.writer) (joined (map (λ name. string_text name.items) (take l.number l.functions))) × (g.O.AnswerWriter.has_failed l.writer ≡ false)
