-- the variables before this one were written
use Rattle.std.proofs.Common.{◌≡◌, false, map, take}
use Rattle.std.specs.Io.KnownBytes.{Appends}
use Rattle.json_texts.proofs.Listing.{joined}
use Rattle.run_page.specs.RecordText.{variable_text}
use Rattle.run_page.proofs.writing.write_variables.Given as goal

abbrev pub invariant-loop-number : goal.invariant-loop-number
invariant-loop-number g l =
    Appends (g.O.AnswerWriter.written l.initial.writer) (g.O.AnswerWriter.written l.writer) (joined (map variable_text (take l.number l.variables))) × (g.O.AnswerWriter.has_failed l.writer ≡ false)
