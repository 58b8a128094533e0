-- What follows from the definitions of `Values`.
use Rattle.std.proofs.Common.{ℕ, zero, suc, ◌+◌, ◌-◌, ◌*◌, ◌/◌, ◌%◌, ◌^◌, ◌<◌, ◌≤◌, Bool, true, false, cond, ◌≡◌, refl, sym, ◌∙◌, ap, subst, arith, inl, inr}
use Rattle.std.specs.Prelude.{ℤ, pos, negsuc, neg_ℤ, ◌+ℤ◌, ◌-ℤ◌, ◌*ℤ◌, unsigned_abs, bit_and, bit_or, bit_xor, nat_eq, int_lt, nat_lt, min, not}
use Rattle.std.specs.Int.{int_div_euclid, cast_signed, cast_unsigned, w64, int_wrap}
use Rattle.std.proofs.lemmas.Int.{ints, int_rem_euclid_is, wrapping_add-bits, wrapping_sub-bits, wrapping_mul-bits, int_wrap-add_left, int_wrap-add_right, int_wrap-sub_right, int_wrap-mul_left, int_wrap-mul_right, of_z-to_z, to_z_pos}
use Rattle.std.proofs.lemmas.Nat.{and_mask, mod_below, pow_pos, pow-add, div-add-mod', shr_le, le_or_l, le_or_r, and_le_l, or_lt, xor_lt, pow_below}
use Rattle.std.proofs.lemmas.Bool.{cases_lt}
use Rattle.std.proofs.Math.Pow.{mod-mod-pow}
use Rattle.std.proofs.Math.Facts.{to_z-neg}
use Rattle.std.proofs.Math.Nat.{mod-add-mod, mul_assoc, add-mul, zero-div, mul-pos, mul-le-mul_right, add-mul-div_right, mul-div_cancel}
use Rattle.gang_types.specs.declared.types.IntType.{IntType}
use Rattle.gang_types.specs.declared.types.IntType.TheVariants.{Bool as BoolType, Int8, Int16, Int32, Int64, Uint8, Uint16, Uint32, Uint64}
use Rattle.gang_types.specs.Values.{is_bool, is_signed, width, half, value_of, residue, word_of, value_in, wrapped, binary_of, exact, truth, amount, converted}
use Rattle.gang_types.specs.declared.operators.BinaryOp.TheVariants.{Add, Sub, Mul, And, Or, Xor, Shl, Shr, Less, LessEqual, Greater, GreaterEqual, Equal, NotEqual}
use Rattle.std.proofs.lemmas.Bool.Decides.{nat_tests}

-- ---- residues

pub residue_is : (n : ℕ) (z : ℤ) (k m : ℕ) → 0 < n → z +ℤ pos (k * n) ≡ pos m → residue n z ≡ m % n
unfolding residue
residue_is n z k m h e = ap unsigned_abs (int_rem_euclid_is z (pos n) n k m h refl e)

pub residue_lt : (n : ℕ) (z : ℤ) → 0 < n → residue n z < n
unfolding residue
residue_lt n (pos a) h = mod_below a n h
residue_lt n (negsuc a) h = omega arith

pub word_of-lt : (z : ℤ) → word_of z < 2 ^ 64
unfolding word_of
word_of-lt z = residue_lt (2 ^ 64) z (omega arith)

pub word_of-pos : (a : ℕ) → a < 2 ^ 64 → word_of (pos a) ≡ a
unfolding residue word_of
word_of-pos a h = omega arith

word_of_sub_pos : (r h : ℕ) → h ≤ 2 ^ 64 → word_of (pos r -ℤ pos h) ≡ (r + (2 ^ 64 - h)) % 2 ^ 64
unfolding word_of
word_of_sub_pos r h le = residue_is (2 ^ 64) (pos r -ℤ pos h) 1 (r + (2 ^ 64 - h)) (omega arith) (omega (arith, ints))

-- every z is a number below 0 or not, some multiples of 2 ^ 64 away
represented : (z : ℤ) → (k : ℕ) × (m : ℕ) × (z +ℤ pos (k * 2 ^ 64) ≡ pos m)
represented (pos a) = (0, a, omega (arith, ints))
represented (negsuc a) = (a + 1, (a + 1) * 2 ^ 64 - (a + 1), omega (arith, ints))

mod_word : (n w : ℕ) → w ≤ 64 → n % 2 ^ 64 % 2 ^ w ≡ n % 2 ^ w
mod_word n w h =
    let e : (64 - w) + w ≡ 64 = omega arith in
    let P : ℕ → Type 0 = λ k. n % 2 ^ k % 2 ^ w ≡ n % 2 ^ w in
    subst P e (mod-mod-pow n (64 - w) w)

pub width-le : (ty : IntType) → width ty ≤ 64
width-le BoolType = omega arith
width-le Int8 = omega arith
width-le Int16 = omega arith
width-le Int32 = omega arith
width-le Int64 = omega arith
width-le Uint8 = omega arith
width-le Uint16 = omega arith
width-le Uint32 = omega arith
width-le Uint64 = omega arith

pub half-le : (ty : IntType) → half ty ≤ 2 ^ 63
half-le BoolType = omega arith
half-le Int8 = omega arith
half-le Int16 = omega arith
half-le Int32 = omega arith
half-le Int64 = omega arith
half-le Uint8 = omega arith
half-le Uint16 = omega arith
half-le Uint32 = omega arith
half-le Uint64 = omega arith

-- ---- the ring of words

word_of_is_wrap : (z : ℤ) → word_of z ≡ cast_unsigned w64 (int_wrap w64 z)
unfolding residue word_of int_wrap
word_of_is_wrap z = sym (of_z-to_z w64 (word_of z) (word_of-lt z))

pub wrap_is_word_of : (z : ℤ) → int_wrap w64 z ≡ cast_signed w64 (word_of z)
unfolding residue word_of int_wrap
wrap_is_word_of z = refl

word_from_wrap : (z : ℤ) (m : ℕ) → m < 2 ^ 64 → cast_signed w64 m ≡ int_wrap w64 z → word_of z ≡ m
word_from_wrap z m h e = word_of_is_wrap z ∙ ap (cast_unsigned w64) (sym e) ∙ of_z-to_z w64 m h

pub word_of-add : (x y : ℤ) → word_of (x +ℤ y) ≡ (word_of x + word_of y) % 2 ^ 64
unfolding residue word_of int_wrap
word_of-add x y =
    word_from_wrap (x +ℤ y) ((word_of x + word_of y) % 2 ^ 64) (mod_below (word_of x + word_of y) (2 ^ 64) (omega arith))
    (wrapping_add-bits w64 (word_of x) (word_of y) (word_of-lt x) (word_of-lt y)
    ∙ int_wrap-add_left w64 x (int_wrap w64 y)
    ∙ int_wrap-add_right w64 x y)

sub_left : (x y : ℤ) → int_wrap w64 (int_wrap w64 x -ℤ y) ≡ int_wrap w64 (x -ℤ y)
sub_left x y = int_wrap-add_left w64 x (neg_ℤ y)

pub word_of-sub : (x y : ℤ) → word_of (x -ℤ y) ≡ (word_of x + (2 ^ 64 - word_of y)) % 2 ^ 64
unfolding residue word_of int_wrap
word_of-sub x y =
    word_from_wrap (x -ℤ y) ((word_of x + (2 ^ 64 - word_of y)) % 2 ^ 64) (mod_below (word_of x + (2 ^ 64 - word_of y)) (2 ^ 64) (omega arith))
    (wrapping_sub-bits w64 (word_of x) (word_of y) (word_of-lt x) (word_of-lt y)
    ∙ sub_left x (int_wrap w64 y)
    ∙ int_wrap-sub_right w64 x y)

pub word_of-mul : (x y : ℤ) → word_of (x *ℤ y) ≡ (word_of x * word_of y) % 2 ^ 64
unfolding residue word_of int_wrap
word_of-mul x y =
    word_from_wrap (x *ℤ y) ((word_of x * word_of y) % 2 ^ 64) (mod_below (word_of x * word_of y) (2 ^ 64) (omega arith))
    (wrapping_mul-bits w64 (word_of x) (word_of y) (word_of-lt x) (word_of-lt y)
    ∙ int_wrap-mul_left w64 x (int_wrap w64 y)
    ∙ int_wrap-mul_right w64 x y)

signed_high : (a : ℕ) → 2 ^ 63 ≤ a → a < 2 ^ 64 → cast_signed w64 a ≡ pos a -ℤ pos (2 ^ 64)
signed_high a low h =
    let e : a ≡ 2 ^ 64 - suc (2 ^ 64 - 1 - a) = omega arith in
    let f : negsuc (2 ^ 64 - 1 - a) ≡ pos a -ℤ pos (2 ^ 64) = omega (arith, ints) in
    ap (cast_signed w64) e ∙ to_z-neg w64 (2 ^ 64 - 1 - a) (omega arith) ∙ f

word_of-signed : (a : ℕ) → a < 2 ^ 64 → word_of (cast_signed w64 a) ≡ a
word_of-signed a h =
    elim (cases_lt a (2 ^ 63)) [
      | inl low ↦ ap word_of (to_z_pos w64 a low) ∙ word_of-pos a h
      | inr high ↦ ap word_of (signed_high a high h) ∙ word_of_sub_pos a (2 ^ 64) (omega arith) ∙ omega arith
    ]

pub word_of-value_of : (ty : IntType) (a : ℕ) → a < 2 ^ 64 → word_of (value_of ty a) ≡ a
unfolding value_of
word_of-value_of ty a h =
    elim (is_signed ty) as (λ b. word_of (cond b (cast_signed w64 a) (pos a)) ≡ a) [
      | true ↦ word_of-signed a h
      | false ↦ word_of-pos a h
    ]

-- ---- narrowing

-- the word that narrowing gives: add half, keep the low bits, take half away
abbrev pub narrowed : IntType → ℕ → ℕ
narrowed ty x = (bit_and ((x + half ty) % 2 ^ 64) (2 ^ width ty - 1) + (2 ^ 64 - half ty)) % 2 ^ 64

residue_of : (w h : ℕ) → w ≤ 64 → (z : ℤ) → residue (2 ^ w) (z +ℤ pos h) ≡ (word_of z + h) % 2 ^ w
unfolding word_of
residue_of w h le z =
    let (k, m, repr) = represented z in
    let e : (64 - w) + w ≡ 64 = omega arith in
    let split : 2 ^ 64 ≡ 2 ^ (64 - w) * 2 ^ w = ap (λ i. 2 ^ i) (sym e) ∙ pow-add 2 (64 - w) w in
    let whole : k * 2 ^ (64 - w) * 2 ^ w ≡ k * 2 ^ 64 = mul_assoc k (2 ^ (64 - w)) (2 ^ w) ∙ ap (λ i. k * i) (sym split) in
    let there : z +ℤ pos h +ℤ pos (k * 2 ^ (64 - w) * 2 ^ w) ≡ pos (m + h) = rw whole (omega (arith, ints)) in
    let left : residue (2 ^ w) (z +ℤ pos h) ≡ (m + h) % 2 ^ w = residue_is (2 ^ w) (z +ℤ pos h) (k * 2 ^ (64 - w)) (m + h) (pow_pos w) there in
    let word : word_of z ≡ m % 2 ^ 64 = residue_is (2 ^ 64) z k m (omega arith) repr in
    let right : (word_of z + h) % 2 ^ w ≡ (m + h) % 2 ^ w =
    ap (λ i. (i + h) % 2 ^ w) word
    ∙ sym (mod-add-mod (m % 2 ^ 64) (2 ^ w) h)
    ∙ ap (λ i. (i + h) % 2 ^ w) (mod_word m w le)
    ∙ mod-add-mod m (2 ^ w) h in
    left ∙ sym right

low_bits_of : (ty : IntType) (z : ℤ) → residue (2 ^ width ty) (z +ℤ pos (half ty)) ≡ bit_and ((word_of z + half ty) % 2 ^ 64) (2 ^ width ty - 1)
low_bits_of ty z =
    residue_of (width ty) (half ty) (width-le ty) z
    ∙ sym (and_mask ((word_of z + half ty) % 2 ^ 64) (width ty) ∙ mod_word (word_of z + half ty) (width ty) (width-le ty))

-- the value is wrapped as its word is
pub wrapped_word : (ty : IntType) (z : ℤ) → is_bool ty ≡ false → wrapped ty z ≡ narrowed ty (word_of z)
unfolding value_in wrapped
wrapped_word ty z e =
    ap (λ b. word_of (cond b (cond (nat_eq (unsigned_abs z) 0) (pos 0) (pos 1)) (pos (residue (2 ^ width ty) (z +ℤ pos (half ty))) -ℤ pos (half ty)))) e
    ∙ ap (λ r. word_of (pos r -ℤ pos (half ty))) (low_bits_of ty z)
    ∙ word_of_sub_pos (bit_and ((word_of z + half ty) % 2 ^ 64) (2 ^ width ty - 1)) (half ty) (omega (arith, half-le ty))

-- ---- order and shifts: a value is a number from 0, less the bias
abbrev pub bias : IntType → ℕ
bias ty = cond (is_signed ty) (2 ^ 63) 0

abbrev pub biased : IntType → ℕ → ℕ
biased ty a = (a + bias ty) % 2 ^ 64

biased_signed : (a : ℕ) → a < 2 ^ 64 → cast_signed w64 a ≡ pos ((a + 2 ^ 63) % 2 ^ 64) -ℤ pos (2 ^ 63)
biased_signed a h =
    elim (cases_lt a (2 ^ 63)) [
      | inl low ↦ to_z_pos w64 a low ∙ biased_low a low
      | inr high ↦ signed_high a high h ∙ biased_high a high h
    ]
  where
    biased_low : (a : ℕ) → a < 2 ^ 63 → pos a ≡ pos ((a + 2 ^ 63) % 2 ^ 64) -ℤ pos (2 ^ 63)
    biased_low a low = omega (arith, ints)

    biased_high : (a : ℕ) → 2 ^ 63 ≤ a → a < 2 ^ 64 → pos a -ℤ pos (2 ^ 64) ≡ pos ((a + 2 ^ 63) % 2 ^ 64) -ℤ pos (2 ^ 63)
    biased_high a high h = omega (arith, ints)

biased_unsigned : (a : ℕ) → a < 2 ^ 64 → pos a ≡ pos ((a + 0) % 2 ^ 64) -ℤ pos 0
biased_unsigned a h = omega (arith, ints)

pub value_biased : (ty : IntType) (a : ℕ) → a < 2 ^ 64 → value_of ty a ≡ pos (biased ty a) -ℤ pos (bias ty)
unfolding value_of
value_biased ty a h =
    elim (is_signed ty) as (λ b. cond b (cast_signed w64 a) (pos a) ≡ pos ((a + cond b (2 ^ 63) 0) % 2 ^ 64) -ℤ pos (cond b (2 ^ 63) 0)) [
      | true ↦ biased_signed a h
      | false ↦ biased_unsigned a h
    ]

lt_biased : (u v b : ℕ) → int_lt (pos u -ℤ pos b) (pos v -ℤ pos b) ≡ nat_lt u v
lt_biased u v b = grind (arith, ints)

pub less_biased : (ty : IntType) (a b : ℕ) → a < 2 ^ 64 → b < 2 ^ 64 → int_lt (value_of ty a) (value_of ty b) ≡ nat_lt (biased ty a) (biased ty b)
less_biased ty a b h k =
    ap (λ x. int_lt x (value_of ty b)) (value_biased ty a h)
    ∙ ap (λ y. int_lt (pos (biased ty a) -ℤ pos (bias ty)) y) (value_biased ty b k)
    ∙ lt_biased (biased ty a) (biased ty b) (bias ty)

one_more_quotient : (b q p c r s : ℕ) → (q * c + r) + (p * c + s) + 1 ≡ b * c → r < c → s < c → b ≡ q + p + 1
one_more_quotient b q p c r s e hr hs =
    elim (cases_lt b (q + p + 1)) [
      | inl less ↦
          let low : b * c ≤ (q + p) * c = mul-le-mul_right c (omega arith) in
          let apart : (q + p) * c ≡ q * c + p * c = add-mul q p c in
          absurd (omega arith)
      | inr at_least ↦
          elim (cases_lt (q + p + 1) b) [
            | inl more ↦
                let high : (q + p + 2) * c ≤ b * c = mul-le-mul_right c (omega arith) in
                let apart : (q + p + 2) * c ≡ q * c + p * c + 2 * c = add-mul (q + p) 2 c ∙ ap (λ i. i + 2 * c) (add-mul q p c) in
                absurd (omega arith)
            | inr at_most ↦ omega arith
          ]
    ]

floor_shift : (u b c : ℕ) → 0 < c → int_div_euclid (pos u -ℤ pos (b * c)) (pos c) ≡ pos (u / c) -ℤ pos b
floor_shift u b c h =
    elim (cases_lt u (b * c)) [
      | inl below ↦
          let d : ℕ = b * c - suc u in
          let e : pos u -ℤ pos (b * c) ≡ negsuc (b * c - suc u) = omega (arith, ints) in
          let q : b ≡ u / c + (b * c - suc u) / c + 1 =
          one_more_quotient b (u / c) ((b * c - suc u) / c) c (u % c) ((b * c - suc u) % c)
          (omega (arith, div-add-mod' u c, div-add-mod' (b * c - suc u) c))
          (mod_below u c h)
          (mod_below (b * c - suc u) c h) in
          let f : negsuc ((b * c - suc u) / c) ≡ pos (u / c) -ℤ pos b = omega (arith, ints, q) in
          ap (λ z. int_div_euclid z (pos c)) e ∙ f
      | inr above ↦
          let e : pos u -ℤ pos (b * c) ≡ pos (u - b * c) = omega (arith, ints) in
          let q : (u - b * c + b * c) / c ≡ (u - b * c) / c + b = add-mul-div_right (u - b * c) b h in
          let same : u - b * c + b * c ≡ u = omega arith in
          let f : pos ((u - b * c) / c) ≡ pos (u / c) -ℤ pos b = omega (arith, ints, sym (ap (λ i. i / c) same) ∙ q) in
          ap (λ z. int_div_euclid z (pos c)) e ∙ f
    ]

-- a shift to the right of a word, for an amount of 0 to 63
abbrev pub shifted_right : IntType → ℕ → ℕ → ℕ
shifted_right ty a k = (biased ty a / 2 ^ k + (2 ^ 64 - bias ty / 2 ^ k)) % 2 ^ 64

bias_split : (ty : IntType) (k : ℕ) → k ≤ 63 → bias ty / 2 ^ k * 2 ^ k ≡ bias ty
bias_split ty k h =
    elim (is_signed ty) as (λ b. cond b (2 ^ 63) 0 / 2 ^ k * 2 ^ k ≡ cond b (2 ^ 63) 0) [
      | true ↦ top_split k h
      | false ↦ ap (λ i. i * 2 ^ k) (zero-div (2 ^ k)) ∙ omega arith
    ]
  where
    top_split : (k : ℕ) → k ≤ 63 → 2 ^ 63 / 2 ^ k * 2 ^ k ≡ 2 ^ 63
    top_split k h =
        let e : (63 - k) + k ≡ 63 = omega arith in
        let split : 2 ^ 63 ≡ 2 ^ (63 - k) * 2 ^ k = ap (λ i. 2 ^ i) (sym e) ∙ pow-add 2 (63 - k) k in
        ap (λ i. i / 2 ^ k * 2 ^ k) split
        ∙ ap (λ i. i * 2 ^ k) (mul-div_cancel (2 ^ (63 - k)) (pow_pos k))
        ∙ sym split

bias-div_le : (ty : IntType) (k : ℕ) → bias ty / 2 ^ k ≤ 2 ^ 64
bias-div_le ty k =
    elim (is_signed ty) as (λ b. cond b (2 ^ 63) 0 / 2 ^ k ≤ 2 ^ 64) [
      | true ↦ omega (arith, shr_le (2 ^ 63) k)
      | false ↦ omega (arith, shr_le 0 k)
    ]

pub shr_word : (ty : IntType) (a k : ℕ) → a < 2 ^ 64 → k ≤ 63 → word_of (int_div_euclid (value_of ty a) (pos (2 ^ k))) ≡ shifted_right ty a k
shr_word ty a k h le =
    ap (λ z. word_of (int_div_euclid z (pos (2 ^ k)))) (value_biased ty a h ∙ ap (λ i. pos (biased ty a) -ℤ pos i) (sym (bias_split ty k le)))
    ∙ ap word_of (floor_shift (biased ty a) (bias ty / 2 ^ k) (2 ^ k) (pow_pos k))
    ∙ word_of_sub_pos (biased ty a / 2 ^ k) (bias ty / 2 ^ k) (bias-div_le ty k)

-- ---- an operation, by its words
abbrev pub truth_word : ℕ → ℕ
truth_word x = cond (nat_eq x 0) 0 1

-- what is kept of a word at a type
abbrev pub narrow_word : IntType → ℕ → ℕ
narrow_word ty x = cond (is_bool ty) (truth_word x) (narrowed ty x)

truth_is : (z : ℤ) (x : ℕ) → nat_eq (unsigned_abs z) 0 ≡ nat_eq x 0 → word_of (cond (nat_eq (unsigned_abs z) 0) (pos 0) (pos 1)) ≡ truth_word x
truth_is z x e =
    ap (λ b. word_of (cond b (pos 0) (pos 1))) e
    ∙ elim (nat_eq x 0) as (λ b. word_of (cond b (pos 0) (pos 1)) ≡ cond b 0 1) [ true ↦ word_of-pos 0 (omega arith) | false ↦ word_of-pos 1 (omega arith) ]

-- a value is wrapped as a word is that stands for it, and that is 0 exactly where the value is
pub wrapped_is : (ty : IntType) (z : ℤ) (x : ℕ) → word_of z ≡ x → nat_eq (unsigned_abs z) 0 ≡ nat_eq x 0 → wrapped ty z ≡ narrow_word ty x
unfolding value_in wrapped
wrapped_is ty z x e t = by_bool (is_bool ty) refl
  where
    by_bool : (b : Bool) → is_bool ty ≡ b → wrapped ty z ≡ narrow_word ty x
    by_bool true p =
        ap (λ b. word_of (cond b (cond (nat_eq (unsigned_abs z) 0) (pos 0) (pos 1)) (pos (residue (2 ^ width ty) (z +ℤ pos (half ty))) -ℤ pos (half ty)))) p
        ∙ truth_is z x t
        ∙ sym (ap (λ b. cond b (truth_word x) (narrowed ty x)) p)
    by_bool false p =
        wrapped_word ty z p
        ∙ ap (narrowed ty) e
        ∙ sym (ap (λ b. cond b (truth_word x) (narrowed ty x)) p)

-- ---- each operation, by its words
pub wrapped_integer : (ty : IntType) (z : ℤ) (x : ℕ) → is_bool ty ≡ false → word_of z ≡ x → wrapped ty z ≡ narrow_word ty x
wrapped_integer ty z x p e =
    wrapped_word ty z p ∙ ap (narrowed ty) e ∙ sym (ap (λ b. cond b (truth_word x) (narrowed ty x)) p)

bool_is : (ty : IntType) → is_bool ty ≡ true → ty ≡ BoolType
bool_is BoolType e = refl
bool_is _ e = cc

pub wrapped_bool : (z : ℤ) (x : ℕ) → nat_eq (unsigned_abs z) 0 ≡ nat_eq x 0 → wrapped BoolType z ≡ narrow_word BoolType x
unfolding value_in wrapped
wrapped_bool z x e = truth_is z x e

-- a number from 0 that fits is its own word
pub wrapped_pos : (ty : IntType) (n : ℕ) → n < 2 ^ 64 → wrapped ty (pos n) ≡ narrow_word ty n
wrapped_pos ty n h = wrapped_is ty (pos n) n (word_of-pos n h) refl

add_words : (ty : IntType) (a b : ℕ) → a < 2 ^ 64 → b < 2 ^ 64 → word_of (value_of ty a +ℤ value_of ty b) ≡ (a + b) % 2 ^ 64
add_words ty a b h k =
    word_of-add (value_of ty a) (value_of ty b)
    ∙ ap (λ x. (x + word_of (value_of ty b)) % 2 ^ 64) (word_of-value_of ty a h)
    ∙ ap (λ y. (a + y) % 2 ^ 64) (word_of-value_of ty b k)

sub_words : (ty : IntType) (a b : ℕ) → a < 2 ^ 64 → b < 2 ^ 64 → word_of (value_of ty a -ℤ value_of ty b) ≡ (a + (2 ^ 64 - b)) % 2 ^ 64
sub_words ty a b h k =
    word_of-sub (value_of ty a) (value_of ty b)
    ∙ ap (λ x. (x + (2 ^ 64 - word_of (value_of ty b))) % 2 ^ 64) (word_of-value_of ty a h)
    ∙ ap (λ y. (a + (2 ^ 64 - y)) % 2 ^ 64) (word_of-value_of ty b k)

mul_words : (ty : IntType) (a b : ℕ) → a < 2 ^ 64 → b < 2 ^ 64 → word_of (value_of ty a *ℤ value_of ty b) ≡ (a * b) % 2 ^ 64
mul_words ty a b h k =
    word_of-mul (value_of ty a) (value_of ty b)
    ∙ ap (λ x. (x * word_of (value_of ty b)) % 2 ^ 64) (word_of-value_of ty a h)
    ∙ ap (λ y. (a * y) % 2 ^ 64) (word_of-value_of ty b k)

pub add_integer : (ty : IntType) (a b : ℕ) → is_bool ty ≡ false → a < 2 ^ 64 → b < 2 ^ 64 → binary_of Add ty a b ≡ narrow_word ty ((a + b) % 2 ^ 64)
unfolding binary_of
add_integer ty a b p h k = wrapped_integer ty (value_of ty a +ℤ value_of ty b) ((a + b) % 2 ^ 64) p (add_words ty a b h k)

pub sub_integer : (ty : IntType) (a b : ℕ) → is_bool ty ≡ false → a < 2 ^ 64 → b < 2 ^ 64 → binary_of Sub ty a b ≡ narrow_word ty ((a + (2 ^ 64 - b)) % 2 ^ 64)
unfolding binary_of
sub_integer ty a b p h k = wrapped_integer ty (value_of ty a -ℤ value_of ty b) ((a + (2 ^ 64 - b)) % 2 ^ 64) p (sub_words ty a b h k)

pub mul_integer : (ty : IntType) (a b : ℕ) → is_bool ty ≡ false → a < 2 ^ 64 → b < 2 ^ 64 → binary_of Mul ty a b ≡ narrow_word ty ((a * b) % 2 ^ 64)
unfolding binary_of
mul_integer ty a b p h k = wrapped_integer ty (value_of ty a *ℤ value_of ty b) ((a * b) % 2 ^ 64) p (mul_words ty a b h k)

-- at bool a sum, a difference and a product are 0 where these words are
pub or_zero : (a b : ℕ) → nat_eq (a + b) 0 ≡ nat_eq (bit_or a b) 0
or_zero a b = grind (arith, nat_tests, or_is_zero a b, le_or_l a b, le_or_r a b)
  where
    or_is_zero : (a b : ℕ) → a + b ≡ 0 → bit_or a b ≡ 0
    or_is_zero a b e =
        let p : a ≡ 0 = omega arith in
        let q : b ≡ 0 = omega arith in
        rw (p, q) refl

pub not_zero : (n : ℕ) → 0 < n → nat_eq n 0 ≡ false
not_zero n h = grind (arith, nat_tests)

min_zero : (a b : ℕ) → nat_eq (a * b) 0 ≡ nat_eq (min a b) 0
min_zero zero b = ap (λ i. nat_eq i 0) (omega arith)
min_zero (suc a) zero = ap (λ i. nat_eq i 0) (omega arith)
min_zero (suc a) (suc b) = not_zero (suc a * suc b) (mul-pos (omega arith) (omega arith)) ∙ sym (not_zero (min (suc a) (suc b)) (omega arith))

pub add_bool : (ty : IntType) (a b : ℕ) → is_bool ty ≡ true → binary_of Add ty a b ≡ narrow_word ty (bit_or a b)
unfolding binary_of value_of
add_bool BoolType a b p = wrapped_bool (pos a +ℤ pos b) (bit_or a b) (or_zero a b)
add_bool _ a b p = cc

pub mul_bool : (ty : IntType) (a b : ℕ) → is_bool ty ≡ true → binary_of Mul ty a b ≡ narrow_word ty (min a b)
unfolding binary_of value_of
mul_bool BoolType a b p = wrapped_bool (pos a *ℤ pos b) (min a b) (min_zero a b)
mul_bool _ a b p = cc

pub and_any : (ty : IntType) (a b : ℕ) → a < 2 ^ 64 → b < 2 ^ 64 → binary_of And ty a b ≡ narrow_word ty (bit_and a b)
unfolding binary_of
and_any ty a b h k = wrapped_pos ty (bit_and a b) (omega (arith, and_le_l a b))

pub or_any : (ty : IntType) (a b : ℕ) → a < 2 ^ 64 → b < 2 ^ 64 → binary_of Or ty a b ≡ narrow_word ty (bit_or a b)
unfolding binary_of
or_any ty a b h k = wrapped_pos ty (bit_or a b) (or_lt 64 a b h k)

pub xor_any : (ty : IntType) (a b : ℕ) → a < 2 ^ 64 → b < 2 ^ 64 → binary_of Xor ty a b ≡ narrow_word ty (bit_xor a b)
unfolding binary_of
xor_any ty a b h k = wrapped_pos ty (bit_xor a b) (xor_lt 64 a b h k)

pub word_of_truth : (b : Bool) → wrapped BoolType (truth b) ≡ cond b 1 0
word_of_truth true = wrapped_pos BoolType 1 (omega arith)
word_of_truth false = wrapped_pos BoolType 0 (omega arith)

pub less_any : (ty : IntType) (a b : ℕ) → a < 2 ^ 64 → b < 2 ^ 64 → binary_of Less ty a b ≡ cond (nat_lt (biased ty a) (biased ty b)) 1 0
unfolding binary_of
less_any ty a b h k = word_of_truth (int_lt (value_of ty a) (value_of ty b)) ∙ ap (λ t. cond t 1 0) (less_biased ty a b h k)

pub equal_any : (ty : IntType) (a b : ℕ) → binary_of Equal ty a b ≡ cond (nat_eq a b) 1 0
unfolding binary_of
equal_any ty a b = word_of_truth (nat_eq a b)

-- an amount below the width, by its low bits
pub amount_is : (ty : IntType) (b : ℕ) → bit_and b (width ty - 1) ≡ amount ty b
amount_is BoolType b = and_mask b 0
amount_is Int8 b = and_mask b 3
amount_is Int16 b = and_mask b 4
amount_is Int32 b = and_mask b 5
amount_is Int64 b = and_mask b 6
amount_is Uint8 b = and_mask b 3
amount_is Uint16 b = and_mask b 4
amount_is Uint32 b = and_mask b 5
amount_is Uint64 b = and_mask b 6

pub amount-le : (ty : IntType) (b : ℕ) → amount ty b ≤ 63
amount-le BoolType b = omega arith
amount-le Int8 b = omega arith
amount-le Int16 b = omega arith
amount-le Int32 b = omega arith
amount-le Int64 b = omega arith
amount-le Uint8 b = omega arith
amount-le Uint16 b = omega arith
amount-le Uint32 b = omega arith
amount-le Uint64 b = omega arith

shl_words : (ty : IntType) (a k : ℕ) → a < 2 ^ 64 → k ≤ 63 → word_of (value_of ty a *ℤ pos (2 ^ k)) ≡ (a * 2 ^ k) % 2 ^ 64
shl_words ty a k h le =
    word_of-mul (value_of ty a) (pos (2 ^ k))
    ∙ ap (λ x. (x * word_of (pos (2 ^ k))) % 2 ^ 64) (word_of-value_of ty a h)
    ∙ ap (λ y. (a * y) % 2 ^ 64) (word_of-pos (2 ^ k) (pow_below k 64 (omega arith)))

shl_bool : (a b : ℕ) → a < 2 ^ 64 → wrapped BoolType (pos (a * 2 ^ (b % 1))) ≡ narrow_word BoolType ((a * 2 ^ (b % 1)) % 2 ^ 64)
shl_bool a b h =
    let e : b % 1 ≡ 0 = omega arith in
    rw e (wrapped_bool (pos (a * 1)) ((a * 1) % 2 ^ 64) (ap (λ i. nat_eq i 0) (omega arith)))

shr_bool : (a b : ℕ) → a < 2 ^ 64 → wrapped BoolType (pos (a / 2 ^ (b % 1))) ≡ narrow_word BoolType (((a + 0) % 2 ^ 64 / 2 ^ (b % 1) + (2 ^ 64 - 0 / 2 ^ (b % 1))) % 2 ^ 64)
shr_bool a b h =
    let e : b % 1 ≡ 0 = omega arith in
    rw e (wrapped_bool (pos (a / 1)) (((a + 0) % 2 ^ 64 / 1 + (2 ^ 64 - 0 / 1)) % 2 ^ 64) (ap (λ i. nat_eq i 0) (omega arith)))

pub shl_any : (ty : IntType) (a b : ℕ) → a < 2 ^ 64 → binary_of Shl ty a b ≡ narrow_word ty ((a * 2 ^ amount ty b) % 2 ^ 64)
unfolding binary_of value_of
shl_any ty a b h = by_bool (is_bool ty) refl
  where
    at_bool : (ty : IntType) → is_bool ty ≡ true → binary_of Shl ty a b ≡ narrow_word ty ((a * 2 ^ amount ty b) % 2 ^ 64)
    at_bool BoolType p = shl_bool a b h
    at_bool _ p = cc

    by_bool : (t : Bool) → is_bool ty ≡ t → binary_of Shl ty a b ≡ narrow_word ty ((a * 2 ^ amount ty b) % 2 ^ 64)
    by_bool false p = wrapped_integer ty (exact Shl ty a b) ((a * 2 ^ amount ty b) % 2 ^ 64) p (shl_words ty a (amount ty b) h (amount-le ty b))
    by_bool true p = at_bool ty p

pub shr_any : (ty : IntType) (a b : ℕ) → a < 2 ^ 64 → binary_of Shr ty a b ≡ narrow_word ty (shifted_right ty a (amount ty b))
unfolding binary_of value_of
shr_any ty a b h = by_bool (is_bool ty) refl
  where
    at_bool : (ty : IntType) → is_bool ty ≡ true → binary_of Shr ty a b ≡ narrow_word ty (shifted_right ty a (amount ty b))
    at_bool BoolType p = shr_bool a b h
    at_bool _ p = cc

    by_bool : (t : Bool) → is_bool ty ≡ t → binary_of Shr ty a b ≡ narrow_word ty (shifted_right ty a (amount ty b))
    by_bool false p = wrapped_integer ty (exact Shr ty a b) (shifted_right ty a (amount ty b)) p (shr_word ty a (amount ty b) h (amount-le ty b))
    by_bool true p = at_bool ty p

signed_zero : (a : ℕ) → a < 2 ^ 64 → nat_eq (unsigned_abs (cast_signed w64 a)) 0 ≡ nat_eq a 0
signed_zero a h =
    elim (cases_lt a (2 ^ 63)) [
      | inl low ↦ ap (λ z. nat_eq (unsigned_abs z) 0) (to_z_pos w64 a low)
      | inr high ↦
          let e : a ≡ 2 ^ 64 - suc (2 ^ 64 - 1 - a) = omega arith in
          ap (λ z. nat_eq (unsigned_abs z) 0) (ap (cast_signed w64) e ∙ to_z-neg w64 (2 ^ 64 - 1 - a) (omega arith))
          ∙ not_zero (suc (2 ^ 64 - 1 - a)) (omega arith)
          ∙ sym (not_zero a (omega arith))
    ]

pub value_zero : (ty : IntType) (a : ℕ) → a < 2 ^ 64 → nat_eq (unsigned_abs (value_of ty a)) 0 ≡ nat_eq a 0
unfolding value_of
value_zero ty a h =
    elim (is_signed ty) as (λ b. nat_eq (unsigned_abs (cond b (cast_signed w64 a) (pos a))) 0 ≡ nat_eq a 0) [
      | true ↦ signed_zero a h
      | false ↦ refl
    ]

pub convert_any : (from to : IntType) (a : ℕ) → a < 2 ^ 64 → converted from to a ≡ narrow_word to a
convert_any from to a h = wrapped_is to (value_of from a) a (word_of-value_of from a h) (value_zero from a h)

sub_zero : (a b : ℕ) → a < 2 ^ 64 → b < 2 ^ 64 → nat_eq (unsigned_abs (pos a -ℤ pos b)) 0 ≡ nat_eq ((a + (2 ^ 64 - b)) % 2 ^ 64) 0
sub_zero a b h k =
    elim (cases_lt a b) [
      | inl below ↦
          let e : pos a -ℤ pos b ≡ negsuc (b - a - 1) = omega (arith, ints) in
          ap (λ z. nat_eq (unsigned_abs z) 0) e
          ∙ not_zero (suc (b - a - 1)) (omega arith)
          ∙ sym (not_zero ((a + (2 ^ 64 - b)) % 2 ^ 64) (omega arith))
      | inr above ↦
          let e : pos a -ℤ pos b ≡ pos (a - b) = omega (arith, ints) in
          ap (λ z. nat_eq (unsigned_abs z) 0) e ∙ ap (λ i. nat_eq i 0) (omega arith)
    ]

sub_bool : (ty : IntType) (a b : ℕ) → is_bool ty ≡ true → a < 2 ^ 64 → b < 2 ^ 64 → binary_of Sub ty a b ≡ narrow_word ty ((a + (2 ^ 64 - b)) % 2 ^ 64)
unfolding binary_of value_of
sub_bool BoolType a b p h k = wrapped_bool (pos a -ℤ pos b) ((a + (2 ^ 64 - b)) % 2 ^ 64) (sub_zero a b h k)
sub_bool _ a b p h k = cc

pub sub_any : (ty : IntType) (a b : ℕ) → a < 2 ^ 64 → b < 2 ^ 64 → binary_of Sub ty a b ≡ narrow_word ty ((a + (2 ^ 64 - b)) % 2 ^ 64)
sub_any ty a b h k = by_bool (is_bool ty) refl
  where
    by_bool : (t : Bool) → is_bool ty ≡ t → binary_of Sub ty a b ≡ narrow_word ty ((a + (2 ^ 64 - b)) % 2 ^ 64)
    by_bool true p = sub_bool ty a b p h k
    by_bool false p = sub_integer ty a b p h k

pub less_equal_any : (ty : IntType) (a b : ℕ) → a < 2 ^ 64 → b < 2 ^ 64 → binary_of LessEqual ty a b ≡ cond (not (nat_lt (biased ty b) (biased ty a))) 1 0
unfolding binary_of
less_equal_any ty a b h k = word_of_truth (not (int_lt (value_of ty b) (value_of ty a))) ∙ ap (λ t. cond (not t) 1 0) (less_biased ty b a k h)

pub not_equal_any : (ty : IntType) (a b : ℕ) → binary_of NotEqual ty a b ≡ cond (not (nat_eq a b)) 1 0
unfolding binary_of
not_equal_any ty a b = word_of_truth (not (nat_eq a b))

pub wrapped_is_truth : (ty : IntType) (z : ℤ) → is_bool ty ≡ true → wrapped ty z ≡ truth_word (unsigned_abs z)
unfolding value_in wrapped
wrapped_is_truth BoolType z p = truth_is z (unsigned_abs z) refl
wrapped_is_truth _ z p = cc

-- above is below with the two sides exchanged
pub greater_is_less : (ty : IntType) (a b : ℕ) → binary_of Greater ty a b ≡ binary_of Less ty b a
unfolding binary_of
greater_is_less ty a b = refl

pub greater_equal_is_less_equal : (ty : IntType) (a b : ℕ) → binary_of GreaterEqual ty a b ≡ binary_of LessEqual ty b a
unfolding binary_of
greater_equal_is_less_equal ty a b = refl
