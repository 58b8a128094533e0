-- the lanes before this one have their words
use Rattle.std.proofs.Common.{◌≡◌, ℕ, ◌<◌, length, slice_index}
use Rattle.gang_machine.proofs.expressions.widened.Given as goal

abbrev pub invariant-loop-lane : goal.invariant-loop-lane
invariant-loop-lane g l = record {
  long : length l.words ≡ 16;
  read : (k : ℕ) → k < l.lane → slice_index l.words k ≡ slice_index l.values k;
}
