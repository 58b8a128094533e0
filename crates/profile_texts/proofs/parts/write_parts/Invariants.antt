-- the writer works
use Rattle.std.proofs.Common.{◌≡◌, false}
use Rattle.profile_texts.proofs.parts.write_parts.Given as goal

abbrev pub invariant-loop-part : goal.invariant-loop-part
invariant-loop-part g l = g.O.AnswerWriter.has_failed l.writer ≡ false
