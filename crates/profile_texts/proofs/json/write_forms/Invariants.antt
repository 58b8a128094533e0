-- the writer works
use Rattle.std.proofs.Common.{◌≡◌, false}
use Rattle.profile_texts.proofs.json.write_forms.Given as goal

abbrev pub invariant-loop-number : goal.invariant-loop-number
invariant-loop-number g l = g.O.AnswerWriter.has_failed l.writer ≡ false
