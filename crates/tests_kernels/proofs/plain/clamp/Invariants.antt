use Rattle.std.proofs.Common.{◌≡◌, ℕ, ◌<◌, length, slice_index}
use Rattle.gang_types.specs.Library.{clamped}
use Rattle.tests_kernels.proofs.plain.clamp.Given as goal

abbrev pub invariant-loop-i : goal.invariant-loop-i
invariant-loop-i g l = (length l.words ≡ g.row.W) × ((k : ℕ) → k < l.i → slice_index l.words k ≡ clamped l.fn.ty (slice_index l.fn.a k) (slice_index l.fn.low k) (slice_index l.fn.high k))
