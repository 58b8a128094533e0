-- the lanes before this one have their words
use Rattle.std.proofs.Common.{◌≡◌, ◌<◌, ◌≤◌, ℕ, cond, length, slice_index}
use Rattle.gang_types.specs.Lanes.{has}
use Rattle.gang_types.specs.Masks.{lanes_of}
use Rattle.gang_memory.proofs.reading.words_at.Given as goal

abbrev pub invariant-loop-lane : goal.invariant-loop-lane
invariant-loop-lane g l = record {
  long : length l.words ≡ g.row.W;
  done : (k : ℕ) → k < l.lane → slice_index l.words k ≡ cond (has (lanes_of g.row.W l.fn.mask) k) (slice_index (g.S.WordStore.words l.fn.store) (slice_index l.fn.slots k)) 0;
  others : (k : ℕ) → l.lane ≤ k → slice_index l.words k ≡ 0;
}
