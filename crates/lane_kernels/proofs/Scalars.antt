-- The values of one lane, by the words that the operations make them of.
use Rattle.std.proofs.Common.{ℕ, zero, suc, ◌+◌, ◌-◌, ◌/◌, ◌%◌, ◌^◌, ◌<◌, Bool, true, false, cond, ◌≡◌, refl, sym, ◌∙◌, ap, subst, arith}
use Rattle.std.specs.Prelude.{ℤ, pos, negsuc, neg_ℤ, int_lt, nat_eq, unsigned_abs, bit_and, count_ones}
use Rattle.std.specs.Int.{cast_signed, w64}
use lib.Count.{ones_step, ones-ones}
use Rattle.std.proofs.lemmas.Int.{ints}
use Rattle.std.proofs.lemmas.Nat.{and_mask, field_of}
use Rattle.std.proofs.Math.Pow.{mod-mod-pow}
use Rattle.gang_types.specs.declared.types.IntType.{IntType}
use Rattle.gang_types.specs.declared.operators.BinaryOp.TheVariants.{Less}
use Rattle.gang_types.specs.declared.operators.UnaryOp.TheVariants.{Negate, Complement}
use Rattle.gang_types.specs.Values.{is_bool, is_signed, width, value_of, wrapped, binary_of, unary_of, converted}
use Rattle.gang_types.specs.Laws.{word_of_truth, narrowed, narrow_word, truth_word}
use Rattle.gang_types.specs.UnaryLaws.{complement_any}
use Rattle.gang_types.specs.Library.{absolute, set_bits, bit_count}

less_word : (ty : IntType) (x y : ℕ) → binary_of Less ty x y ≡ cond (int_lt (value_of ty x) (value_of ty y)) 1 0
unfolding binary_of
less_word ty x y = word_of_truth (int_lt (value_of ty x) (value_of ty y))

chosen_by : (b : Bool) (u v : ℕ) → cond (nat_eq (cond b 1 0) 0) u v ≡ cond b v u
chosen_by true u v = refl
chosen_by false u v = refl

-- a choice by the word of a comparison
pub chosen_less : (ty : IntType) (x y l u v : ℕ) → l ≡ binary_of Less ty x y → cond (nat_eq l 0) u v ≡ cond (int_lt (value_of ty x) (value_of ty y)) v u
chosen_less ty x y l u v e =
    ap (λ n. cond (nat_eq n 0) u v) (e ∙ less_word ty x y) ∙ chosen_by (int_lt (value_of ty x) (value_of ty y)) u v

zero_value : (ty : IntType) → value_of ty 0 ≡ pos 0
unfolding value_of
zero_value ty = elim (is_signed ty) as (λ b. cond b (cast_signed w64 0) (pos 0) ≡ pos 0) [ true ↦ refl | false ↦ refl ]

unsigned : (ty : IntType) (z : ℤ) → cond (int_lt z (pos 0)) (wrapped ty (neg_ℤ z)) (wrapped ty z) ≡ wrapped ty (pos (unsigned_abs z))
unsigned ty (pos n) =
    let e : int_lt (pos n) (pos 0) ≡ false = grind (arith, ints) in
    ap (λ b. cond b (wrapped ty (neg_ℤ (pos n))) (wrapped ty (pos n))) e
unsigned ty (negsuc n) =
    let e : int_lt (negsuc n) (pos 0) ≡ true = grind (arith, ints) in
    ap (λ b. cond b (wrapped ty (neg_ℤ (negsuc n))) (wrapped ty (negsuc n))) e

pub absolute_is : (ty : IntType) (x l n v : ℕ) → l ≡ binary_of Less ty x 0 → n ≡ unary_of Negate ty x → v ≡ converted ty ty x → cond (nat_eq l 0) v n ≡ absolute ty x
absolute_is ty x l n v el en ev =
    chosen_less ty x 0 l v n el
    ∙ ap (λ z. cond (int_lt (value_of ty x) z) n v) (zero_value ty)
    ∙ ap (λ m. cond (int_lt (value_of ty x) (pos 0)) m v) en
    ∙ ap (λ m. cond (int_lt (value_of ty x) (pos 0)) (wrapped ty (neg_ℤ (value_of ty x))) m) ev
    ∙ unsigned ty (value_of ty x)

-- ---- complements
pub complement_true : (ty : IntType) (a : ℕ) → is_bool ty ≡ true → a < 2 ^ 64 → unary_of Complement ty a ≡ 1
complement_true ty a p h = complement_any ty a h ∙ ap (λ b. cond b 1 (narrowed ty (2 ^ 64 - 1 - a))) p

pub complement_narrowed : (ty : IntType) (a : ℕ) → is_bool ty ≡ false → a < 2 ^ 64 → unary_of Complement ty a ≡ narrow_word ty ((2 ^ 64 - 1 + (2 ^ 64 - a)) % 2 ^ 64)
complement_narrowed ty a p h =
    let e : 2 ^ 64 - 1 - a ≡ (2 ^ 64 - 1 + (2 ^ 64 - a)) % 2 ^ 64 = omega arith in
    complement_any ty a h
    ∙ ap (λ b. cond b 1 (narrowed ty (2 ^ 64 - 1 - a))) p
    ∙ ap (narrowed ty) e
    ∙ sym (ap (λ b. cond b (truth_word ((2 ^ 64 - 1 + (2 ^ 64 - a)) % 2 ^ 64)) (narrowed ty ((2 ^ 64 - 1 + (2 ^ 64 - a)) % 2 ^ 64))) p)

-- ---- bits that are 1
ones_below : (w n : ℕ) → count_ones (n % 2 ^ w) ≡ set_bits w n
ones_below zero n =
    let e : n % 2 ^ 0 ≡ 0 = omega arith in
    ap count_ones e ∙ ones-ones 0
ones_below (suc w) n =
    let P : ℕ → Type 0 = λ k. count_ones (n % 2 ^ k) ≡ n % 2 + set_bits w (n / 2) in
    let more : w + 1 ≡ suc w = omega arith in
    let here : count_ones (n % 2 ^ (w + 1)) ≡ n % 2 + set_bits w (n / 2) =
    ones_step (n % 2 ^ (w + 1))
    ∙ ap (λ i. i + count_ones (n % 2 ^ (w + 1) / 2)) (mod-mod-pow n w 1)
    ∙ ap (λ i. n % 2 + count_ones i) (field_of n w 1)
    ∙ ap (λ i. n % 2 + i) (ones_below w (n / 2)) in
    subst P more here

pub bit_count_is : (ty : IntType) (word low : ℕ) → low ≡ 2 ^ width ty - 1 → count_ones (bit_and word low) ≡ bit_count ty word
bit_count_is ty word low e =
    ap (λ m. count_ones (bit_and word m)) e ∙ ap count_ones (and_mask word (width ty)) ∙ ones_below (width ty) word
