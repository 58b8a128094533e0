use Rattle.std.proofs.Common.{◌≡◌, length}
use Rattle.gang_types.specs.Library.{larger}
use Rattle.lane_kernels.specs.Lanes.{InEachLane}
use Rattle.tests_kernels.proofs.plain.max.Given as goal

abbrev pub invariant-loop-i : goal.invariant-loop-i
invariant-loop-i g l = (length l.words ≡ g.row.W) × InEachLane l.i (larger l.fn.ty) l.fn.a l.fn.b l.words
