-- no step of the function stands before this one
use Rattle.std.proofs.Common.{◌≡◌, false, take}
use Rattle.lane_counts.specs.Pending.{has_function}
use Rattle.lane_counts.proofs.frames.Frames.has.Given as goal

abbrev pub invariant-loop-last : goal.invariant-loop-last
invariant-loop-last l = has_function l.function (take l.last-index l.last-items) ≡ false
