-- the lanes before this one have their slots
use Rattle.std.proofs.Common.{◌≡◌, ◌+◌, ◌<◌, ℕ, length, slice_index}
use Rattle.gang_memory.proofs.scalars.consecutive.Given as goal

abbrev pub invariant-loop-lane : goal.invariant-loop-lane
invariant-loop-lane g l = record {
  long : length l.slots ≡ g.row.W;
  done : (k : ℕ) → k < l.lane → slice_index l.slots k ≡ l.fn.first + k;
}
