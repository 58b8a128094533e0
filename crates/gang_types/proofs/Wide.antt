-- Values as `i128`s.
use Rattle.std.proofs.Common.{ℕ, zero, suc, ◌-◌, ◌/◌, ◌^◌, ◌<◌, ◌≤◌, true, false, cond, ◌≡◌, refl, sym, ◌∙◌, ap, arith}
use Rattle.std.specs.Prelude.{ℤ, pos, negsuc, neg_ℤ, unsigned_abs, nat_eq, int_div, FitsSigned}
use Rattle.std.specs.Int.{cast_signed, cast_unsigned, w64, w128, int_rem_euclid}
use Rattle.std.proofs.lemmas.Int.{fits_signed_from_abs, to_z-of_z}
use Rattle.std.proofs.lemmas.Bool.Decides.{nat_tests}
use Rattle.std.proofs.Math.Nat.{div-le_self}
use Rattle.gang_types.specs.declared.types.IntType.{IntType}
use Rattle.gang_types.specs.Values.{is_bool, is_signed, value_of, wrapped, word_of, residue}
use Rattle.gang_types.specs.Laws.{not_zero, value_zero, narrowed, wrapped_word, wrapped_is_truth}

pub value_signed : (ty : IntType) (a : ℕ) → is_signed ty ≡ true → value_of ty a ≡ cast_signed w64 a
unfolding value_of
value_signed ty a e = ap (λ b. cond b (cast_signed w64 a) (pos a)) e

pub value_unsigned : (ty : IntType) (a : ℕ) → is_signed ty ≡ false → value_of ty a ≡ pos a
unfolding value_of
value_unsigned ty a e = ap (λ b. cond b (cast_signed w64 a) (pos a)) e

pub bits_zero : (v : ℤ) → unsigned_abs v ≤ 2 ^ 127 → nat_eq (unsigned_abs v) 0 ≡ nat_eq (cast_unsigned w128 v) 0
bits_zero (pos n) h = refl
bits_zero (negsuc n) h = not_zero (suc n) (omega arith) ∙ sym (not_zero (2 ^ 128 - suc n) (omega arith))

pub positive_from : (n : ℕ) → nat_eq n 0 ≡ false → 0 < n
positive_from n e = grind (arith, nat_tests)

-- a value of a word that is not 0, as the divisor of an `i128`
pub divisor_bits : (ty : IntType) (b : ℕ) (y : ℤ) → 0 < b → b < 2 ^ 64 → y ≡ value_of ty b → unsigned_abs y < 2 ^ 127 → 0 < cast_unsigned w128 y
divisor_bits ty b y h k e fits =
    positive_from (cast_unsigned w128 y)
    (sym (bits_zero y (omega arith)) ∙ ap (λ z. nat_eq (unsigned_abs z) 0) e ∙ value_zero ty b k ∙ not_zero b h)

neg_abs : (n : ℕ) → unsigned_abs (neg_ℤ (pos n)) ≡ n
neg_abs zero = refl
neg_abs (suc n) = refl

quot_small : (x y : ℤ) → unsigned_abs (int_div x y) ≤ unsigned_abs x
quot_small (pos a) (pos b) = div-le_self a b
quot_small (pos a) (negsuc b) = rw (neg_abs (a / suc b)) (div-le_self a (suc b))
quot_small (negsuc a) (pos b) = rw (neg_abs (suc a / b)) (div-le_self (suc a) b)
quot_small (negsuc a) (negsuc b) = div-le_self (suc a) (suc b)

pub quot_fits_wide : (x y : ℤ) → unsigned_abs x < 2 ^ 127 → FitsSigned w128 (int_div x y)
quot_fits_wide x y h = fits_signed_from_abs w128 (int_div x y) (omega (arith, quot_small x y))

pub wide_fits : (x : ℤ) → unsigned_abs x < 2 ^ 127 → FitsSigned w128 x
wide_fits x h = fits_signed_from_abs w128 x h

pub wrap_integer : (ty : IntType) (v r : ℤ) (n : ℕ) → is_bool ty ≡ false → r ≡ int_rem_euclid v (pos (2 ^ 64)) → n ≡ unsigned_abs r → narrowed ty n ≡ wrapped ty v
unfolding word_of residue
wrap_integer ty v r n p e f = ap (narrowed ty) (f ∙ ap unsigned_abs e) ∙ sym (wrapped_word ty v p)

not_zero_from : (n : ℕ) → (n ≡ 0 → ⊥) → nat_eq n 0 ≡ false
not_zero_from zero h = absurd (h refl)
not_zero_from (suc n) h = not_zero (suc n) (omega arith)

pub wrap_zero : (ty : IntType) (v : ℤ) → is_bool ty ≡ true → unsigned_abs v ≤ 2 ^ 127 → cast_unsigned w128 v ≡ 0 → 0 ≡ wrapped ty v
wrap_zero ty v p f h = sym (wrapped_is_truth ty v p ∙ ap (λ b. cond b 0 1) (bits_zero v f ∙ ap (λ n. nat_eq n 0) h))

pub wrap_other : (ty : IntType) (v : ℤ) → is_bool ty ≡ true → unsigned_abs v ≤ 2 ^ 127 → (cast_unsigned w128 v ≡ 0 → ⊥) → 1 ≡ wrapped ty v
wrap_other ty v p f h = sym (wrapped_is_truth ty v p ∙ ap (λ b. cond b 0 1) (bits_zero v f ∙ not_zero_from (cast_unsigned w128 v) h))

pub same_abs : (x : ℤ) → FitsSigned w128 x → unsigned_abs (cast_signed w128 (cast_unsigned w128 x)) ≡ unsigned_abs x
same_abs x h = ap unsigned_abs (to_z-of_z w128 x h)

pub quot_fits_bits : (x y : ℤ) → unsigned_abs x < 2 ^ 127 → FitsSigned w128 (int_div (cast_signed w128 (cast_unsigned w128 x)) (cast_signed w128 (cast_unsigned w128 y)))
quot_fits_bits x y h =
    quot_fits_wide (cast_signed w128 (cast_unsigned w128 x)) (cast_signed w128 (cast_unsigned w128 y)) (omega (arith, same_abs x (wide_fits x h)))
