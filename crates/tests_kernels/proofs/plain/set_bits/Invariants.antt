use Rattle.std.proofs.Common.{◌≡◌, ◌+◌, ◌-◌, ◌≤◌}
use Rattle.gang_types.specs.Values.{width}
use Rattle.gang_types.specs.Library.{set_bits, bit_count}
use Rattle.tests_kernels.proofs.plain.set_bits.Given as goal

abbrev pub invariant-loop-bit : goal.invariant-loop-bit
invariant-loop-bit l = (l.count ≤ l._bit) × (l.count + set_bits (width l.fn.ty - l._bit) l.rest ≡ bit_count l.fn.ty l.fn.word)
