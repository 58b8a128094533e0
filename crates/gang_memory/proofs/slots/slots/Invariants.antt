-- the indices of the lanes before this one name elements that are there, and the slots have them
use Rattle.std.proofs.Common.{◌≡◌, ◌+◌, ◌<◌, ◌≤◌, ℕ, true, cond, length, slice_index}
use Rattle.gang_types.specs.Lanes.{has}
use Rattle.gang_types.specs.Masks.{lanes_of}
use Rattle.gang_memory.proofs.slots.slots.Given as goal

abbrev pub invariant-loop-lane : goal.invariant-loop-lane
invariant-loop-lane g l = record {
  long : length l.slots ≡ g.row.W;
  there : (k : ℕ) → k < l.lane → has (lanes_of g.row.W l.fn.mask) k ≡ true → slice_index l.fn.indices k < l.fn.part.len;
  done : (k : ℕ) → k < l.lane → slice_index l.slots k ≡ cond (has (lanes_of g.row.W l.fn.mask) k) (l.fn.part.first + slice_index l.fn.indices k) 0;
  others : (k : ℕ) → l.lane ≤ k → slice_index l.slots k ≡ 0;
}
