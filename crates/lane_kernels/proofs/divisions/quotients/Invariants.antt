use Rattle.std.proofs.Common.{◌≡◌, ℕ, ◌≤◌, length, slice_index}
use Rattle.gang_types.specs.Values.{binary_of}
use Rattle.gang_types.specs.declared.operators.BinaryOp.TheVariants.{Div}
use Rattle.gang_types.specs.Masks.{lanes_of}
use Rattle.lane_kernels.specs.Lanes.{DividedIn}
use Rattle.lane_kernels.proofs.divisions.quotients.Given as goal

abbrev pub invariant-loop-i : goal.invariant-loop-i
invariant-loop-i g l =
    (length l.quotients ≡ g.row.W)
    × DividedIn l.i (lanes_of g.row.W l.fn.active) (binary_of Div l.fn.ty) l.fn.a l.fn.b l.quotients
    × ((k : ℕ) → l.i ≤ k → slice_index l.quotients k ≡ 0)
