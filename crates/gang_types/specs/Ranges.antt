-- The values of a type, and that wrapping gives the one value that it names.
use Rattle.std.proofs.Common.{ℕ, zero, suc, ◌+◌, ◌-◌, ◌*◌, ◌/◌, ◌%◌, ◌^◌, ◌<◌, ◌≤◌, Bool, true, false, cond, ◌≡◌, refl, sym, ◌∙◌, ap, subst, arith}
use Rattle.std.specs.Prelude.{ℤ, pos, negsuc, neg_ℤ, ◌+ℤ◌, ◌-ℤ◌, ◌*ℤ◌, ◌≤ℤ◌, ◌<ℤ◌, unsigned_abs, nat_eq, FitsSigned, Result, Ok, Err, IfOk}
use Rattle.std.specs.Int.{cast_signed, w64, int_rem_euclid}
use Rattle.std.proofs.lemmas.Int.{ints, int_wrap_fits}
use Rattle.std.proofs.lemmas.Nat.{pow_pos, mod_below}
use Rattle.std.proofs.Math.Nat.{mod-add-div', mod-eq_of_lt, suc-mul, add-mul, add-mul-mod_self_right}
use Rattle.gang_types.specs.declared.types.IntType.{IntType}
use Rattle.gang_types.specs.declared.types.IntType.TheVariants.{Bool as BoolType, Int8, Int16, Int32, Int64, Uint8, Uint16, Uint32, Uint64}
use Rattle.gang_types.specs.declared.operators.BinaryOp.{BinaryOp}
use Rattle.gang_types.specs.declared.operators.UnaryOp.{UnaryOp}
use Rattle.gang_types.specs.declared.operators.UnaryOp.TheVariants.{Negate, Plus, Not, Complement}
use Rattle.gang_types.specs.declared.faults.FaultName.{FaultName}
use Rattle.gang_types.specs.declared.faults.FaultName.TheVariants.{DivideByZero}
use Rattle.gang_types.specs.Values.{is_bool, width, half, value_of, residue, word_of, value_in, wrapped, truth, exact, result_type, divides, binary_result, binary_of, unary_type, unary_of, converted}
use Rattle.gang_types.specs.Laws.{residue_is, residue_lt, word_of-pos, word_of-value_of, wrap_is_word_of}

-- z is a value of the type
pub record InType (ty : IntType) (z : ℤ) : Type 0 where
  pub low : neg_ℤ (pos (half ty)) ≤ℤ z
  pub high : z <ℤ pos (2 ^ width ty - half ty)

integer_in : (ty : IntType) (r : ℕ) → half ty ≤ 2 ^ width ty → r < 2 ^ width ty → InType ty (pos r -ℤ pos (half ty))
integer_in ty r h k = record { low = omega (arith, ints); high = omega (arith, ints) }

half-width : (ty : IntType) → half ty ≤ 2 ^ width ty
half-width BoolType = omega arith
half-width Int8 = omega arith
half-width Int16 = omega arith
half-width Int32 = omega arith
half-width Int64 = omega arith
half-width Uint8 = omega arith
half-width Uint16 = omega arith
half-width Uint32 = omega arith
half-width Uint64 = omega arith

bool_in : (b : Bool) → InType BoolType (cond b (pos 0) (pos 1))
bool_in true = record { low = omega (arith, ints); high = omega (arith, ints) }
bool_in false = record { low = omega (arith, ints); high = omega (arith, ints) }

-- 1. it is a value of the type
pub value_in-InType : (ty : IntType) (z : ℤ) → InType ty (value_in ty z)
unfolding value_in
value_in-InType BoolType z = bool_in (nat_eq (unsigned_abs z) 0)
value_in-InType Int8 z = integer_in Int8 (residue (2 ^ 8) (z +ℤ pos (2 ^ 7))) (omega arith) (residue_lt (2 ^ 8) (z +ℤ pos (2 ^ 7)) (omega arith))
value_in-InType Int16 z = integer_in Int16 (residue (2 ^ 16) (z +ℤ pos (2 ^ 15))) (omega arith) (residue_lt (2 ^ 16) (z +ℤ pos (2 ^ 15)) (omega arith))
value_in-InType Int32 z = integer_in Int32 (residue (2 ^ 32) (z +ℤ pos (2 ^ 31))) (omega arith) (residue_lt (2 ^ 32) (z +ℤ pos (2 ^ 31)) (omega arith))
value_in-InType Int64 z = integer_in Int64 (residue (2 ^ 64) (z +ℤ pos (2 ^ 63))) (omega arith) (residue_lt (2 ^ 64) (z +ℤ pos (2 ^ 63)) (omega arith))
value_in-InType Uint8 z = integer_in Uint8 (residue (2 ^ 8) (z +ℤ pos 0)) (omega arith) (residue_lt (2 ^ 8) (z +ℤ pos 0) (omega arith))
value_in-InType Uint16 z = integer_in Uint16 (residue (2 ^ 16) (z +ℤ pos 0)) (omega arith) (residue_lt (2 ^ 16) (z +ℤ pos 0) (omega arith))
value_in-InType Uint32 z = integer_in Uint32 (residue (2 ^ 32) (z +ℤ pos 0)) (omega arith) (residue_lt (2 ^ 32) (z +ℤ pos 0) (omega arith))
value_in-InType Uint64 z = integer_in Uint64 (residue (2 ^ 64) (z +ℤ pos 0)) (omega arith) (residue_lt (2 ^ 64) (z +ℤ pos 0) (omega arith))

-- 2. of an integer type, it differs from z by a multiple of 2 ^ width
residue_differs : (n : ℕ) (z : ℤ) → 0 < n → (k : ℤ) × (z ≡ pos (residue n z) +ℤ k *ℤ pos n)
unfolding residue
residue_differs n (pos a) h = (pos (a / n), ap pos (sym (mod-add-div' a n)))
residue_differs n (negsuc a) h =
    let whole : a % n + a / n * n ≡ a = mod-add-div' a n in
    let more : suc (a / n) * n ≡ a / n * n + n = suc-mul (a / n) n in
    let low : a % n < n = mod_below a n h in
    let e : negsuc a ≡ pos (n - 1 - a % n) +ℤ neg_ℤ (pos (suc (a / n) * n)) = omega (arith, ints) in
    (negsuc (a / n), e)

pub value_in_differs : (ty : IntType) (z : ℤ) → is_bool ty ≡ false → (k : ℤ) × (z ≡ value_in ty z +ℤ k *ℤ pos (2 ^ width ty))
unfolding value_in
value_in_differs ty z p =
    let (k, e) = residue_differs (2 ^ width ty) (z +ℤ pos (half ty)) (pow_pos (width ty)) in
    let v : value_in ty z ≡ pos (residue (2 ^ width ty) (z +ℤ pos (half ty))) -ℤ pos (half ty) =
    ap (λ b. cond b (cond (nat_eq (unsigned_abs z) 0) (pos 0) (pos 1)) (pos (residue (2 ^ width ty) (z +ℤ pos (half ty))) -ℤ pos (half ty))) p in
    (k, differs z (value_in ty z) (k *ℤ pos (2 ^ width ty)) (residue (2 ^ width ty) (z +ℤ pos (half ty))) (half ty) e v)
  where
    differs : (z v t : ℤ) (r h : ℕ) → z +ℤ pos h ≡ pos r +ℤ t → v ≡ pos r -ℤ pos h → z ≡ v +ℤ t
    differs z v t r h e f = omega (arith, ints)

from_zero : (x : ℤ) → pos 0 ≤ℤ x → x ≡ pos (unsigned_abs x)
from_zero (pos n) h = refl
from_zero (negsuc n) h = absurd (omega (arith, ints))

same_integer : (n h : ℕ) (z : ℤ) → h ≤ n → neg_ℤ (pos h) ≤ℤ z → z <ℤ pos (n - h) → pos (residue n (z +ℤ pos h)) -ℤ pos h ≡ z
unfolding residue
same_integer n h z le low high =
    let at_least : pos 0 ≤ℤ (z +ℤ pos h) = omega (arith, ints) in
    let e : z +ℤ pos h ≡ pos (unsigned_abs (z +ℤ pos h)) = from_zero (z +ℤ pos h) at_least in
    let below : unsigned_abs (z +ℤ pos h) < n = omega (arith, ints) in
    let same : unsigned_abs (z +ℤ pos h) % n ≡ unsigned_abs (z +ℤ pos h) = mod-eq_of_lt below in
    ap (λ x. pos (unsigned_abs (int_rem_euclid x (pos n))) -ℤ pos h) e
    ∙ ap (λ m. pos m -ℤ pos h) same
    ∙ omega (arith, ints)

same_bool : (z : ℤ) → InType BoolType z → cond (nat_eq (unsigned_abs z) 0) (pos 0) (pos 1) ≡ z
same_bool (pos zero) i = refl
same_bool (pos (suc zero)) i = refl
same_bool (pos (suc (suc n))) i = absurd (omega (arith, ints))
same_bool (negsuc n) i = absurd (omega (arith, ints))

-- 3. a value of the type is kept
pub value_in_same : (ty : IntType) (z : ℤ) → InType ty z → value_in ty z ≡ z
unfolding value_in
value_in_same BoolType z i = same_bool z i
value_in_same Int8 z i = same_integer (2 ^ 8) (2 ^ 7) z (omega arith) i.low i.high
value_in_same Int16 z i = same_integer (2 ^ 16) (2 ^ 15) z (omega arith) i.low i.high
value_in_same Int32 z i = same_integer (2 ^ 32) (2 ^ 31) z (omega arith) i.low i.high
value_in_same Int64 z i = same_integer (2 ^ 64) (2 ^ 63) z (omega arith) i.low i.high
value_in_same Uint8 z i = same_integer (2 ^ 8) 0 z (omega arith) i.low i.high
value_in_same Uint16 z i = same_integer (2 ^ 16) 0 z (omega arith) i.low i.high
value_in_same Uint32 z i = same_integer (2 ^ 32) 0 z (omega arith) i.low i.high
value_in_same Uint64 z i = same_integer (2 ^ 64) 0 z (omega arith) i.low i.high

fits_from : (z : ℤ) → neg_ℤ (pos (2 ^ 63)) ≤ℤ z → z <ℤ pos (2 ^ 63) → FitsSigned w64 z
fits_from (pos n) low high = record { sfits = omega (arith, ints) }
fits_from (negsuc n) low high = record { sfits = omega (arith, ints) }

signed_back : (z : ℤ) → neg_ℤ (pos (2 ^ 63)) ≤ℤ z → z <ℤ pos (2 ^ 63) → cast_signed w64 (word_of z) ≡ z
signed_back z low high = sym (wrap_is_word_of z) ∙ int_wrap_fits w64 z (fits_from z low high)

unsigned_back : (z : ℤ) → pos 0 ≤ℤ z → z <ℤ pos (2 ^ 64) → pos (word_of z) ≡ z
unsigned_back (pos n) low high = ap pos (word_of-pos n (omega (arith, ints)))
unsigned_back (negsuc n) low high = absurd (omega (arith, ints))

-- 4. the word stands for the value
pub value_of-word_of : (ty : IntType) (z : ℤ) → InType ty z → value_of ty (word_of z) ≡ z
unfolding value_of
value_of-word_of BoolType z i = unsigned_back z i.low (omega (arith, ints))
value_of-word_of Int8 z i = signed_back z (omega (arith, ints)) (omega (arith, ints))
value_of-word_of Int16 z i = signed_back z (omega (arith, ints)) (omega (arith, ints))
value_of-word_of Int32 z i = signed_back z (omega (arith, ints)) (omega (arith, ints))
value_of-word_of Int64 z i = signed_back z (omega (arith, ints)) (omega (arith, ints))
value_of-word_of Uint8 z i = unsigned_back z i.low (omega (arith, ints))
value_of-word_of Uint16 z i = unsigned_back z i.low (omega (arith, ints))
value_of-word_of Uint32 z i = unsigned_back z i.low (omega (arith, ints))
value_of-word_of Uint64 z i = unsigned_back z i.low (omega (arith, ints))

pub value_of-wrapped : (ty : IntType) (z : ℤ) → value_of ty (wrapped ty z) ≡ value_in ty z
unfolding wrapped
value_of-wrapped ty z = value_of-word_of ty (value_in ty z) (value_in-InType ty z)

-- 5. a result is a value of its type
pub wrapped-InType : (ty : IntType) (z : ℤ) → InType ty (value_of ty (wrapped ty z))
wrapped-InType ty z = let P : ℤ → Type 0 = InType ty in subst P (sym (value_of-wrapped ty z)) (value_in-InType ty z)

pub binary_of-InType : (op : BinaryOp) (ty : IntType) (a b : ℕ) → InType (result_type op ty) (value_of (result_type op ty) (binary_of op ty a b))
unfolding binary_of
binary_of-InType op ty a b = wrapped-InType (result_type op ty) (exact op ty a b)

pub binary_result-InType : (op : BinaryOp) (ty : IntType) (a b : ℕ) (r : Result ℕ FaultName) → r ≡ binary_result op ty a b → IfOk r (λ word. InType (result_type op ty) (value_of (result_type op ty) word))
binary_result-InType op ty a b r e =
    let P : Result ℕ FaultName → Type 0 = λ r. IfOk r (λ word. InType (result_type op ty) (value_of (result_type op ty) word)) in
    subst P (sym e) (each (divides op) (nat_eq b 0))
  where
    each : (s t : Bool) → IfOk (cond s (cond t (Err DivideByZero) (Ok (binary_of op ty a b))) (Ok (binary_of op ty a b))) (λ word. InType (result_type op ty) (value_of (result_type op ty) word))
    each true true = tt
    each true false = binary_of-InType op ty a b
    each false t = binary_of-InType op ty a b

pub unary_of-InType : (op : UnaryOp) (ty : IntType) (a : ℕ) → InType (unary_type op ty) (value_of (unary_type op ty) (unary_of op ty a))
unary_of-InType Negate ty a = wrapped-InType ty (neg_ℤ (value_of ty a))
unary_of-InType Plus ty a = wrapped-InType ty (value_of ty a)
unary_of-InType Not ty a = wrapped-InType BoolType (truth (nat_eq a 0))
unary_of-InType Complement ty a = wrapped-InType ty (neg_ℤ (value_of ty a) -ℤ pos 1)

pub converted-InType : (from to : IntType) (a : ℕ) → InType to (value_of to (converted from to a))
converted-InType from to a = wrapped-InType to (value_of from a)

-- 6. a value of the type is kept by its word, and a word of the type by its value
pub wrapped-kept : (ty : IntType) (z : ℤ) → InType ty z → value_of ty (wrapped ty z) ≡ z
wrapped-kept ty z i = value_of-wrapped ty z ∙ value_in_same ty z i

pub wrapped-value_of : (ty : IntType) (a : ℕ) → a < 2 ^ 64 → InType ty (value_of ty a) → wrapped ty (value_of ty a) ≡ a
unfolding wrapped
wrapped-value_of ty a h i = ap word_of (value_in_same ty (value_of ty a) i) ∙ word_of-value_of ty a h

-- 7. of an integer type, wrapping is congruent

-- x and y differ by a multiple of n
abbrev pub IsCongruent : ℕ → ℤ → ℤ → Type 0
IsCongruent n x y = (j : ℕ) × (k : ℕ) × (x +ℤ pos (j * n) ≡ y +ℤ pos (k * n))

from_multiple : (n : ℕ) (x y k : ℤ) → x ≡ y +ℤ k *ℤ pos n → IsCongruent n x y
from_multiple n x y (pos i) e =
    let f : x +ℤ pos (0 * n) ≡ y +ℤ pos (i * n) = omega (arith, ints) in
    (0, i, f)
from_multiple n x y (negsuc i) e =
    let f : x +ℤ pos (suc i * n) ≡ y +ℤ pos (0 * n) = omega (arith, ints) in
    (suc i, 0, f)

congruent_along : (n : ℕ) (x y z : ℤ) → IsCongruent n x y → IsCongruent n y z → IsCongruent n x z
congruent_along n x y z (i, k, e) (j, l, f) =
    let left : (i + j) * n ≡ i * n + j * n = add-mul i j n in
    let right : (k + l) * n ≡ k * n + l * n = add-mul k l n in
    let both : x +ℤ pos ((i + j) * n) ≡ z +ℤ pos ((k + l) * n) = omega (arith, ints, left, right) in
    (i + j, k + l, both)

-- numbers that differ by a multiple of n leave the same remainder
residue_same : (n m j k : ℕ) (x : ℤ) → m < n → x +ℤ pos (j * n) ≡ pos (m + k * n) → residue n x ≡ m
residue_same n m j k x h e =
    residue_is n x j (m + k * n) (omega arith) e ∙ add-mul-mod_self_right m k n ∙ mod-eq_of_lt h

shifted : (n h m j k : ℕ) (z v : ℤ) → v +ℤ pos h ≡ pos m → z +ℤ pos (j * n) ≡ v +ℤ pos (k * n) → (z +ℤ pos h) +ℤ pos (j * n) ≡ pos (m + k * n)
shifted n h m j k z v e f = omega (arith, ints)

integer_is : (n h : ℕ) (z v : ℤ) → h ≤ n → neg_ℤ (pos h) ≤ℤ v → v <ℤ pos (n - h) → IsCongruent n z v → pos (residue n (z +ℤ pos h)) -ℤ pos h ≡ v
integer_is n h z v le low high (j, k, e) =
    let at_least : pos 0 ≤ℤ (v +ℤ pos h) = omega (arith, ints) in
    let whole : v +ℤ pos h ≡ pos (unsigned_abs (v +ℤ pos h)) = from_zero (v +ℤ pos h) at_least in
    let below : unsigned_abs (v +ℤ pos h) < n = omega (arith, ints) in
    ap (λ m. pos m -ℤ pos h) (residue_same n (unsigned_abs (v +ℤ pos h)) j k (z +ℤ pos h) below (shifted n h (unsigned_abs (v +ℤ pos h)) j k z v whole e))
    ∙ back v h (unsigned_abs (v +ℤ pos h)) whole
  where
    back : (v : ℤ) (h m : ℕ) → v +ℤ pos h ≡ pos m → pos m -ℤ pos h ≡ v
    back v h m e = omega (arith, ints)

-- the value is the one of the type that is congruent to z
pub value_in_is : (ty : IntType) (z v : ℤ) → is_bool ty ≡ false → InType ty v → IsCongruent (2 ^ width ty) z v → value_in ty z ≡ v
unfolding value_in
value_in_is ty z v p i c =
    ap (λ b. cond b (cond (nat_eq (unsigned_abs z) 0) (pos 0) (pos 1)) (pos (residue (2 ^ width ty) (z +ℤ pos (half ty))) -ℤ pos (half ty))) p
    ∙ integer_is (2 ^ width ty) (half ty) z v (half-width ty) i.low i.high c

pub value_in_congruent : (ty : IntType) (z : ℤ) → is_bool ty ≡ false → IsCongruent (2 ^ width ty) z (value_in ty z)
value_in_congruent ty z p =
    let (k, e) = value_in_differs ty z p in
    from_multiple (2 ^ width ty) z (value_in ty z) k e

pub wrapped_congruent : (ty : IntType) (x y : ℤ) → is_bool ty ≡ false → IsCongruent (2 ^ width ty) x y → wrapped ty x ≡ wrapped ty y
unfolding wrapped
wrapped_congruent ty x y p c =
    ap word_of (value_in_is ty x (value_in ty y) p (value_in-InType ty y) (congruent_along (2 ^ width ty) x y (value_in ty y) c (value_in_congruent ty y p)))

-- what a word stands for, after wrapping
pub record IsWrapped (ty : IntType) (z : ℤ) (word : ℕ) : Type 0 where
  pub of_type : InType ty (value_of ty word)
  pub kept : InType ty z → value_of ty word ≡ z
  pub congruent : is_bool ty ≡ false → IsCongruent (2 ^ width ty) z (value_of ty word)
  pub same : (y : ℤ) → is_bool ty ≡ false → IsCongruent (2 ^ width ty) z y → word ≡ wrapped ty y

pub wrapped-IsWrapped : (ty : IntType) (z : ℤ) → IsWrapped ty z (wrapped ty z)
wrapped-IsWrapped ty z = record {
  of_type = wrapped-InType ty z;
  kept = wrapped-kept ty z;
  congruent = λ p. let P : ℤ → Type 0 = IsCongruent (2 ^ width ty) z in subst P (sym (value_of-wrapped ty z)) (value_in_congruent ty z p);
  same = λ y p c. wrapped_congruent ty z y p c;
}

-- each law of a word that an operation gave, by the word
pub wrap-meaning : (ty : IntType) (z : ℤ) (word : ℕ) → word ≡ wrapped ty z → IsWrapped ty z word
wrap-meaning ty z word e = let P : ℕ → Type 0 = IsWrapped ty z in subst P (sym e) (wrapped-IsWrapped ty z)

pub unary-of_type : (op : UnaryOp) (ty : IntType) (a word : ℕ) → word ≡ unary_of op ty a → InType (unary_type op ty) (value_of (unary_type op ty) word)
unary-of_type op ty a word e =
    let P : ℕ → Type 0 = λ n. InType (unary_type op ty) (value_of (unary_type op ty) n) in
    subst P (sym e) (unary_of-InType op ty a)

pub convert-of_type : (from to : IntType) (a word : ℕ) → word ≡ converted from to a → InType to (value_of to word)
convert-of_type from to a word e =
    let P : ℕ → Type 0 = λ n. InType to (value_of to n) in
    subst P (sym e) (converted-InType from to a)

pub convert-kept : (from to : IntType) (a word : ℕ) → word ≡ converted from to a → InType to (value_of from a) → value_of to word ≡ value_of from a
convert-kept from to a word e i = ap (value_of to) e ∙ wrapped-kept to (value_of from a) i
