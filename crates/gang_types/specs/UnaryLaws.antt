-- The operations on one word, by its words.
use Rattle.std.proofs.Common.{ℕ, suc, ◌+◌, ◌-◌, ◌%◌, ◌^◌, ◌<◌, Bool, true, false, cond, ◌≡◌, refl, sym, ◌∙◌, ap, arith}
use Rattle.std.specs.Prelude.{ℤ, pos, negsuc, neg_ℤ, ◌-ℤ◌}
use Rattle.std.specs.Int.{cast_signed, w64}
use Rattle.std.proofs.lemmas.Int.{ints}
use Rattle.gang_types.specs.declared.types.IntType.{IntType}
use Rattle.gang_types.specs.declared.types.IntType.TheVariants.{Bool as BoolType}
use Rattle.gang_types.specs.declared.operators.BinaryOp.TheVariants.{Sub}
use Rattle.gang_types.specs.declared.operators.UnaryOp.TheVariants.{Negate, Complement}
use Rattle.gang_types.specs.Values.{is_bool, is_signed, value_of, residue, word_of, wrapped, binary_of, unary_of}
use Rattle.gang_types.specs.Laws.{narrowed, word_of-sub, word_of-value_of, wrapped_word, wrapped_bool, not_zero}

from_zero : (z : ℤ) → neg_ℤ z ≡ pos 0 -ℤ z
from_zero z = omega (arith, ints)

pub negate_is_sub : (ty : IntType) (a : ℕ) → unary_of Negate ty a ≡ binary_of Sub ty 0 a
unfolding binary_of value_of
negate_is_sub ty a =
    elim (is_signed ty) as (λ b. wrapped ty (neg_ℤ (cond b (cast_signed w64 a) (pos a))) ≡ wrapped ty (cond b (cast_signed w64 0) (pos 0) -ℤ cond b (cast_signed w64 a) (pos a))) [
      | true ↦ ap (wrapped ty) (from_zero (cast_signed w64 a))
      | false ↦ ap (wrapped ty) (from_zero (pos a))
    ]

last_word : word_of (negsuc 0) ≡ 2 ^ 64 - 1
unfolding word_of residue
last_word = refl

from_minus_one : (z : ℤ) → neg_ℤ z -ℤ pos 1 ≡ negsuc 0 -ℤ z
from_minus_one z = omega (arith, ints)

complement_words : (ty : IntType) (a : ℕ) → a < 2 ^ 64 → word_of (neg_ℤ (value_of ty a) -ℤ pos 1) ≡ 2 ^ 64 - 1 - a
complement_words ty a h =
    let rest : (2 ^ 64 - 1 + (2 ^ 64 - a)) % 2 ^ 64 ≡ 2 ^ 64 - 1 - a = omega arith in
    ap word_of (from_minus_one (value_of ty a))
    ∙ word_of-sub (negsuc 0) (value_of ty a)
    ∙ ap (λ x. (x + (2 ^ 64 - word_of (value_of ty a))) % 2 ^ 64) last_word
    ∙ ap (λ y. (2 ^ 64 - 1 + (2 ^ 64 - y)) % 2 ^ 64) (word_of-value_of ty a h)
    ∙ rest

below_zero : (a : ℕ) → neg_ℤ (pos a) -ℤ pos 1 ≡ negsuc a
below_zero a = omega (arith, ints)

complement_bool : (ty : IntType) (a : ℕ) → is_bool ty ≡ true → wrapped ty (neg_ℤ (value_of ty a) -ℤ pos 1) ≡ 1
unfolding value_of
complement_bool BoolType a p = ap (wrapped BoolType) (below_zero a) ∙ wrapped_bool (negsuc a) 1 (not_zero (suc a) (omega arith))
complement_bool _ a p = cc

-- at bool no value's complement is 0
pub complement_any : (ty : IntType) (a : ℕ) → a < 2 ^ 64 → unary_of Complement ty a ≡ cond (is_bool ty) 1 (narrowed ty (2 ^ 64 - 1 - a))
complement_any ty a h = by_bool (is_bool ty) refl
  where
    by_bool : (b : Bool) → is_bool ty ≡ b → wrapped ty (neg_ℤ (value_of ty a) -ℤ pos 1) ≡ cond (is_bool ty) 1 (narrowed ty (2 ^ 64 - 1 - a))
    by_bool true p = complement_bool ty a p ∙ sym (ap (λ b. cond b 1 (narrowed ty (2 ^ 64 - 1 - a))) p)
    by_bool false p =
        wrapped_word ty (neg_ℤ (value_of ty a) -ℤ pos 1) p
        ∙ ap (narrowed ty) (complement_words ty a h)
        ∙ sym (ap (λ b. cond b 1 (narrowed ty (2 ^ 64 - 1 - a))) p)
