use Rattle.std.proofs.Common.{◌≡◌, length}
use Rattle.gang_types.specs.Library.{bit_count}
use Rattle.lane_kernels.specs.Lanes.{OfEachLane}
use Rattle.tests_kernels.proofs.plain.popcnt.Given as goal

abbrev pub invariant-loop-i : goal.invariant-loop-i
invariant-loop-i g l = (length l.words ≡ g.row.W) × OfEachLane l.i (bit_count l.fn.ty) l.fn.a l.words
