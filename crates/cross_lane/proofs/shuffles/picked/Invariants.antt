use Rattle.std.proofs.Common.{◌≡◌, ℕ, ◌<◌, ◌≤◌, true, cond, length, slice_index}
use Rattle.gang_types.specs.Lanes.{has}
use Rattle.gang_types.specs.Masks.{lanes_of}
use Rattle.cross_lane.proofs.shuffles.picked.Given as goal

abbrev pub invariant-loop-lane : goal.invariant-loop-lane
invariant-loop-lane g l =
    (length l.picked ≡ g.row.W)
    × ((k : ℕ) → k < l.lane → has (lanes_of g.row.W l.fn.mask) k ≡ true → slice_index l.fn.places k < length l.fn.row)
    × ((k : ℕ) → k < l.lane → slice_index l.picked k ≡ cond (has (lanes_of g.row.W l.fn.mask) k) (slice_index l.fn.row (slice_index l.fn.places k)) 0)
    × ((k : ℕ) → l.lane ≤ k → slice_index l.picked k ≡ 0)
