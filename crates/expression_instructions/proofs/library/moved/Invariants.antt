use Rattle.std.proofs.Common.{◌≡◌, ℕ, ◌<◌, ◌≤◌, cond, length, slice_index}
use Rattle.gang_types.specs.Lanes.{has}
use Rattle.gang_types.specs.Masks.{lanes_of}
use Rattle.cross_lane.specs.Calls.{values_in}
use Rattle.expression_instructions.specs.Values.{moved_word}
use Rattle.expression_instructions.proofs.library.moved.Given as goal

-- the lanes so far have their words, and the others 0
abbrev pub invariant-loop-lane : goal.invariant-loop-lane
invariant-loop-lane g l =
    (length l.moved ≡ g.row.W)
    × ((k : ℕ) → k < l.lane → slice_index l.moved k ≡ cond (has (lanes_of g.row.W l.fn.mask) k) (moved_word l.fn.how (lanes_of g.row.W l.fn.mask) (values_in (lanes_of g.row.W l.fn.mask) l.fn.values) (slice_index l.fn.amounts k) k) 0)
    × ((k : ℕ) → l.lane ≤ k → slice_index l.moved k ≡ 0)
