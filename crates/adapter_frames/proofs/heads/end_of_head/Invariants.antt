-- what is left is what stands behind the lines so far
use Rattle.std.proofs.Common.{length}
use Rattle.adapter_frames.proofs.HeadLines.{HeadSoFar}
use Rattle.adapter_frames.proofs.heads.end_of_head.Given as goal

abbrev pub invariant-loop-line : goal.invariant-loop-line
invariant-loop-line l = HeadSoFar l.bytes l.rest l.at

abbrev pub decreases-loop-line : goal.decreases-loop-line
decreases-loop-line l = length l.rest
