-- The value of digits, from the left to the right.
use Rattle.std.proofs.Common.{◌≡◌, ℕ, zero, suc, ◌+◌, ◌*◌, ◌^◌, ◌<◌, ◌≤◌, List, [], ◌∷◌, length, drop, Some, None, refl, sym, ap, ◌∙◌, arith, add-one, get_or, drop-cons}
use Rattle.std.proofs.lemmas.Bool.{le-ltb, lt-ltb}
use Rattle.std.proofs.Math.Nat.{pow-succ', pow-zero}
use Rattle.gang_model.specs.Source.Spelling.{Radix, decimal, hexadecimal, binary, base, digit_value, value_in}
use Rattle.ispc_lexer.specs.Numbers.{fitting}
use Rattle.ispc_lexer.proofs.Runs.{drop_past}

-- the value so far, and the digits that follow
abbrev pub value_from : Radix → ℕ → List ℕ → ℕ
value_from radix v ds = v * base radix ^ length ds + value_in radix ds

multiply_out : (v b p d x : ℕ) → v * (b * p) + (d * p + x) ≡ (v * b + d) * p + x
multiply_out v b p d x = omega arith

value_cons : (radix : Radix) (v d : ℕ) (ds : List ℕ) → value_from radix v (d ∷ ds) ≡ value_from radix (v * base radix + digit_value d) ds
value_cons radix v d ds = rw (pow-succ' (base radix) (length ds)) (multiply_out v (base radix) (base radix ^ length ds) (digit_value d) (value_in radix ds))

power_some : (radix : Radix) (n : ℕ) → 0 < base radix ^ n
power_some radix zero = rw (pow-zero (base radix)) (omega arith)
power_some decimal (suc n) = omega (arith, power_some decimal n, pow-succ' 10 n)
power_some hexadecimal (suc n) = omega (arith, power_some hexadecimal n, pow-succ' 16 n)
power_some binary (suc n) = omega (arith, power_some binary n, pow-succ' 2 n)

at_least : (v p : ℕ) → 0 < p → v ≤ v * p
at_least v zero lt = absurd (omega arith)
at_least v (suc p) lt = omega arith

value_grows : (radix : Radix) (v : ℕ) (ds : List ℕ) → v ≤ value_from radix v ds
value_grows radix v ds = omega (arith, at_least v (base radix ^ length ds) (power_some radix (length ds)))

pub value_start : (radix : Radix) (ds : List ℕ) → value_from radix 0 ds ≡ value_in radix ds
value_start radix ds = omega arith

pub value_step : (radix : Radix) (ds : List ℕ) (i v d : ℕ) → i < length ds → d ≡ get_or ds i 0 → value_from radix v (drop i ds) ≡ value_from radix (v * base radix + digit_value d) (drop (i + 1) ds)
value_step radix ds i v d lt is = ap (value_from radix v) (drop-cons ds i 0 lt) ∙ value_cons radix v (get_or ds i 0) (drop (suc i) ds) ∙ rw (is, add-one) refl

pub too_large : (radix : Radix) (ds : List ℕ) (i v d total : ℕ) → i < length ds → d ≡ get_or ds i 0 → 2 ^ 64 ≤ v * base radix + digit_value d → value_from radix v (drop i ds) ≡ total → None ≡ fitting total
too_large radix ds i v d total lt is le so_far =
    let rest : value_from radix (v * base radix + digit_value d) (drop (i + 1) ds) ≡ total = sym (value_step radix ds i v d lt is) ∙ so_far in
    rw (le-ltb total (2 ^ 64) (omega (arith, value_grows radix (v * base radix + digit_value d) (drop (i + 1) ds)))) refl

pub all_read : (radix : Radix) (ds : List ℕ) (i v total : ℕ) → length ds ≤ i → v < 2 ^ 64 → value_from radix v (drop i ds) ≡ total → Some v ≡ fitting total
all_read radix ds i v total le lt so_far =
    let none_left : drop i ds ≡ [] = drop_past ds i le in
    let same : value_from radix v (drop i ds) ≡ v = rw (none_left, pow-zero (base radix)) (omega arith) in
    rw (← sym same ∙ so_far, lt-ltb v (2 ^ 64) lt) refl
