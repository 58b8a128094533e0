-- of whichever lines the head is, those so far have no fault
use Rattle.std.proofs.Common.{◌≡◌, ◌≤◌, List, All, length}
use Rattle.adapter_frames.specs.Heads.{Bytes, IsLine, ended}
use Rattle.adapter_frames.proofs.HeadLengths.{LengthSoFar}
use Rattle.adapter_frames.proofs.heads.length_in.Given as goal

abbrev pub invariant-loop-line : goal.invariant-loop-line
invariant-loop-line l = (length l.rest ≤ length l.head) × ((lines : List Bytes) → All IsLine lines → l.head ≡ ended lines → LengthSoFar lines l.rest l.found)

abbrev pub decreases-loop-line : goal.decreases-loop-line
decreases-loop-line l = length l.rest
