use Rattle.std.proofs.Common.{◌≡◌, drop}
use Rattle.std.specs.Prelude.{None}
use Rattle.frame_steps.proofs.ChosenSegments.{found_among}
use Rattle.frame_steps.proofs.choosing.entry.Given as goal

abbrev pub invariant-loop-segment : goal.invariant-loop-segment
invariant-loop-segment l = found_among (drop l.segment-index l.segments) l.value l.default l.next ≡ found_among l.segments l.value None l.next
