-- the end is inside the line, and goes down
use Rattle.std.proofs.Common.{◌<◌, length}
use Rattle.lane_picture.proofs.source.shown_part.Given as goal

abbrev pub invariant-loop-end : goal.invariant-loop-end
invariant-loop-end l = l.end < length l.line

abbrev pub decreases-loop-end : goal.decreases-loop-end
decreases-loop-end l = l.end
