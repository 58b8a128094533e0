-- the moments before this one were written, and the calls of the last of them counted
use Rattle.std.proofs.Common.{◌≡◌, false, take}
use Rattle.std.specs.Io.KnownBytes.{Appends}
use Rattle.json_texts.proofs.Listing.{joined}
use Rattle.run_page.specs.RecordText.{moment_texts}
use Rattle.run_page.proofs.MomentTexts.{count_after}
use Rattle.run_page.proofs.writing.write_moments.Given as goal

abbrev pub invariant-loop-number : goal.invariant-loop-number
invariant-loop-number g l = record {
  counted : l.before ≡ count_after 0 (take l.number l.moments);
  texts : Appends (g.O.AnswerWriter.written l.initial.writer) (g.O.AnswerWriter.written l.writer) (joined (moment_texts l.kept 0 (take l.number l.moments)));
  works : g.O.AnswerWriter.has_failed l.writer ≡ false;
}
