-- the writer works
use Rattle.std.proofs.Common.{◌≡◌, false}
use Rattle.lane_picture.proofs.frame.write_lines.Given as goal

abbrev pub invariant-loop-index : goal.invariant-loop-index
invariant-loop-index g l = g.O.AnswerWriter.has_failed l.writer ≡ false
