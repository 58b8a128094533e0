use Rattle.std.proofs.Common.{◌≡◌, ℕ, length, slice_index}
use Rattle.gang_types.specs.Values.{binary_of}
use Rattle.std.proofs.Common.{◌≤◌}
use Rattle.gang_types.specs.Masks.{lanes_of}
use Rattle.lane_kernels.specs.Lanes.{DividedIn}
use Rattle.tests_kernels.specs.Plain.{NoZeroBelow}
use Rattle.tests_kernels.proofs.plain.divide.Given as goal

abbrev pub invariant-loop-i : goal.invariant-loop-i
invariant-loop-i g l =
    (length l.words ≡ g.row.W)
    × NoZeroBelow l.i (lanes_of g.row.W l.fn.active) l.fn.b
    × DividedIn l.i (lanes_of g.row.W l.fn.active) (binary_of l.fn.op l.fn.ty) l.fn.a l.fn.b l.words
    × ((k : ℕ) → l.i ≤ k → slice_index l.words k ≡ 0)
