use Rattle.std.proofs.Common.{◌≡◌, length}
use Rattle.gang_types.specs.Values.{unary_of}
use Rattle.lane_kernels.specs.Lanes.{OfEachLane}
use Rattle.tests_kernels.proofs.plain.unary.Given as goal

abbrev pub invariant-loop-i : goal.invariant-loop-i
invariant-loop-i g l = (length l.words ≡ g.row.W) × OfEachLane l.i (unary_of l.fn.op l.fn.ty) l.fn.a l.words
