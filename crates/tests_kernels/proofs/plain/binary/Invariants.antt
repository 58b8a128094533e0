use Rattle.std.proofs.Common.{◌≡◌, ℕ, ◌<◌, length, slice_index}
use Rattle.gang_types.specs.Values.{binary_result}
use Rattle.tests_kernels.specs.Plain.{word_or_zero}
use Rattle.tests_kernels.proofs.plain.binary.Given as goal

abbrev pub invariant-loop-i : goal.invariant-loop-i
invariant-loop-i g l = (length l.words ≡ g.row.W) × ((k : ℕ) → k < l.i → slice_index l.words k ≡ word_or_zero (binary_result l.fn.op l.fn.ty (slice_index l.fn.a k) (slice_index l.fn.b k)))
