-- the writer works
use Rattle.std.proofs.Common.{◌≡◌, false}
use Rattle.profile_texts.proofs.json.write_accesses.Given as goal

abbrev pub invariant-loop-access : goal.invariant-loop-access
invariant-loop-access g l = g.O.AnswerWriter.has_failed l.writer ≡ false
