use Rattle.std.proofs.Common.{◌≡◌, length}
use Rattle.gang_types.specs.Values.{converted}
use Rattle.lane_kernels.specs.Lanes.{OfEachLane}
use Rattle.tests_kernels.proofs.plain.convert.Given as goal

abbrev pub invariant-loop-i : goal.invariant-loop-i
invariant-loop-i g l = (length l.words ≡ g.row.W) × OfEachLane l.i (converted l.fn.from l.fn.to) l.fn.a l.words
