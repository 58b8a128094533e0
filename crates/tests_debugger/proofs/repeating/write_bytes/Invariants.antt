-- the writer took every byte so far
use Rattle.std.proofs.Common.{◌≡◌, false}
use Rattle.tests_debugger.proofs.repeating.write_bytes.Given as goal

abbrev pub invariant-loop-byte : goal.invariant-loop-byte
invariant-loop-byte g l = g.O.AnswerWriter.has_failed l.writer ≡ false
