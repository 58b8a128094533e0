-- The value of digits, as far as 64 bits hold it.
use Rattle.std.proofs.Common.{◌≡◌, ℕ, ◌+◌, ◌-◌, ◌*◌, ◌^◌, ◌<◌, ◌≤◌, [], ◌∷◌, length, drop, get_or, min, sym, ap, ◌∙◌, arith, inl, inr}
use Rattle.std.proofs.lemmas.Bool.{cases_lt}
use Rattle.std.proofs.lemmas.List.{at_drop_more, at_drop_all}
use Rattle.adapter_frames.specs.Heads.{Bytes, value_of}
use Rattle.adapter_frames.specs.Places.{clipped}

value_grows : (n : ℕ) (ds : Bytes) → n ≤ value_of n ds
value_grows n [] = omega arith
value_grows n (d ∷ ds) = omega (arith, value_grows (n * 10 + (d - 48)) ds)

small : (n : ℕ) → n < 2 ^ 64 → clipped n ≡ n
small n lt = omega arith

large : (n : ℕ) → 2 ^ 64 ≤ n → clipped n ≡ 2 ^ 64 - 1
large n le = omega arith

-- a number that 64 bits do not hold stays so with more digits
clipped_value : (n : ℕ) (ds : Bytes) → clipped (value_of (clipped n) ds) ≡ clipped (value_of n ds)
clipped_value n ds = elim (cases_lt n (2 ^ 64)) [
  | inl lt ↦ ap (λ m. clipped (value_of m ds)) (small n lt)
  | inr le ↦
      let low = value_grows (clipped n) ds in
      let high = value_grows n ds in
      let most = large n le in
      omega arith
]

-- one more digit is read
pub digit_more : (ds : Bytes) (i v next total : ℕ) → i < length ds → next ≡ min (min (v * 10) (2 ^ 64 - 1) + (get_or ds i 0 - 48)) (2 ^ 64 - 1)
    → clipped (value_of v (drop i ds)) ≡ total → clipped (value_of next (drop (i + 1) ds)) ≡ total
digit_more ds i v next total lt kept so_far =
    let rest = drop (i + 1) ds in
    let longer = v * 10 + (get_or ds i 0 - 48) in
    let same : next ≡ clipped longer = omega arith in
    ap (λ n. clipped (value_of n rest)) same ∙ (clipped_value longer rest ∙ (ap clipped (sym (at_drop_more (value_of v) ds i 0 lt)) ∙ so_far))

-- no digit is left
pub digits_end : (ds : Bytes) (i v total : ℕ) → length ds ≤ i → v < 2 ^ 64 → clipped (value_of v (drop i ds)) ≡ total → v ≡ total
digits_end ds i v total le fits so_far = sym (small v fits) ∙ (ap clipped (sym (at_drop_all (value_of v) ds i le)) ∙ so_far)
