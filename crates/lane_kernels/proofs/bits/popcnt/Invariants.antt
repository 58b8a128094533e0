use Rattle.std.proofs.Common.{◌≡◌, ℕ, ◌<◌, length, slice_index}
use Rattle.gang_types.specs.Library.{bit_count}
use Rattle.lane_kernels.proofs.bits.popcnt.Given as goal

abbrev pub invariant-loop-i : goal.invariant-loop-i
invariant-loop-i g l = (length l.counts ≡ g.row.W) × ((k : ℕ) → k < l.i → slice_index l.counts k ≡ bit_count l.fn.ty (slice_index l.fn.a k))
