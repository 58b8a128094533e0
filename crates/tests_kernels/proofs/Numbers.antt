-- Numbers without their sign, and bits one at a time.
use Rattle.std.proofs.Common.{ℕ, suc, ◌+◌, ◌-◌, ◌/◌, ◌%◌, ◌<◌, ◌≡◌, ap, arith}
use Rattle.std.specs.Prelude.{ℤ, pos, neg_ℤ, ◌<ℤ◌, ◌≤ℤ◌, unsigned_abs}
use Rattle.std.proofs.lemmas.Int.{ints}
use Rattle.gang_types.specs.Library.{set_bits}

pub below_zero : (z : ℤ) → z <ℤ pos 0 → neg_ℤ z ≡ pos (unsigned_abs z)
below_zero z h = omega (arith, ints)

pub from_zero : (z : ℤ) → pos 0 ≤ℤ z → z ≡ pos (unsigned_abs z)
from_zero z h = omega (arith, ints)

pub next_bit : (w i rest : ℕ) → i < w → set_bits (w - i) rest ≡ rest % 2 + set_bits (w - (i + 1)) (rest / 2)
next_bit w i rest h =
    let e : w - i ≡ suc (w - (i + 1)) = omega arith in
    ap (λ k. set_bits k rest) e
