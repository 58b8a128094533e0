-- the writer works
use Rattle.std.proofs.Common.{◌≡◌, false}
use Rattle.profile_texts.proofs.parts.write_shown.Given as goal

abbrev pub invariant-loop-byte : goal.invariant-loop-byte
invariant-loop-byte g l = g.O.AnswerWriter.has_failed l.writer ≡ false
