use Rattle.std.proofs.Common.{◌≡◌, ℕ, ◌≤◌, length, slice_index}
use Rattle.gang_types.specs.Values.{binary_of}
use Rattle.gang_types.specs.declared.operators.BinaryOp.TheVariants.{Rem}
use Rattle.gang_types.specs.Masks.{lanes_of}
use Rattle.lane_kernels.specs.Lanes.{DividedIn}
use Rattle.lane_kernels.proofs.divisions.remainders.Given as goal

abbrev pub invariant-loop-i : goal.invariant-loop-i
invariant-loop-i g l =
    (length l.remainders ≡ g.row.W)
    × DividedIn l.i (lanes_of g.row.W l.fn.active) (binary_of Rem l.fn.ty) l.fn.a l.fn.b l.remainders
    × ((k : ℕ) → l.i ≤ k → slice_index l.remainders k ≡ 0)
