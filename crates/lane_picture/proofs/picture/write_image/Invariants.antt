-- the writer works
use Rattle.std.proofs.Common.{◌≡◌, false}
use Rattle.lane_picture.proofs.picture.write_image.Given as goal

abbrev pub invariant-loop-row : goal.invariant-loop-row
invariant-loop-row g l = g.O.AnswerWriter.has_failed l.writer ≡ false
