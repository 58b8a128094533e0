-- the writer works
use Rattle.std.proofs.Common.{◌≡◌, false}
use Rattle.lane_picture.proofs.tracks.write_tracks.Given as goal

abbrev pub invariant-loop-lane : goal.invariant-loop-lane
invariant-loop-lane g l = g.O.AnswerWriter.has_failed l.writer ≡ false
