-- the changes before this one were written, and the last of them is known
use Rattle.std.proofs.Common.{◌≡◌, false, take, None}
use Rattle.std.specs.Io.KnownBytes.{Appends}
use Rattle.run_page.proofs.ChangeRows.{last_of, open_text}
use Rattle.run_page.proofs.changes.write_changes.Given as goal

abbrev pub invariant-loop-change : goal.invariant-loop-change
invariant-loop-change g l = record {
  last : l.before ≡ last_of None (take l.change-index l.changes);
  texts : Appends (g.O.AnswerWriter.written l.initial.writer) (g.O.AnswerWriter.written l.writer) (open_text l.variables None (take l.change-index l.changes));
  works : g.O.AnswerWriter.has_failed l.writer ≡ false;
}
