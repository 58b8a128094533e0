use Rattle.std.proofs.Common.{◌≡◌, ℕ, ◌<◌, length, slice_index, nat_eq, cond}
use Rattle.tests_kernels.proofs.plain.select.Given as goal

abbrev pub invariant-loop-i : goal.invariant-loop-i
invariant-loop-i g l = (length l.words ≡ g.row.W) × ((k : ℕ) → k < l.i → slice_index l.words k ≡ cond (nat_eq (slice_index l.fn.chosen k) 0) (slice_index l.fn.b k) (slice_index l.fn.a k))
