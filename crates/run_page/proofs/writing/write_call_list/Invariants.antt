-- the calls before this one were written
use Rattle.std.proofs.Common.{◌≡◌, false, map, take}
use Rattle.std.specs.Io.KnownBytes.{Appends}
use Rattle.json_texts.proofs.Listing.{joined}
use Rattle.run_page.specs.RecordText.{call_text}
use Rattle.run_page.proofs.writing.write_call_list.Given as goal

abbrev pub invariant-loop-number : goal.invariant-loop-number
invariant-loop-number g l =
    Appends (g.O.AnswerWriter.written l.initial.writer) (g.O.AnswerWriter.written l.writer) (joined (map call_text (take l.number l.calls))) × (g.O.AnswerWriter.has_failed l.writer ≡ false)
