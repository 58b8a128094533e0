-- Which lane a moved value comes from.
use Rattle.std.proofs.Common.{ℕ, suc, ◌+◌, ◌-◌, ◌*◌, ◌%◌, ◌^◌, ◌<◌, ◌≤◌, cond, ◌≡◌, sym, ◌∙◌, ap, arith, List, length, get_or, inl, inr, ◌⊎◌}
use Rattle.std.specs.Prelude.{pos, negsuc, ◌+ℤ◌, ◌-ℤ◌, min}
use Rattle.std.specs.Int.{cast_signed, w64}
use Rattle.std.proofs.lemmas.Int.{ints, to_z_pos}
use Rattle.std.proofs.lemmas.List.{get_or_past}
use Rattle.std.proofs.lemmas.Bool.{cases_lt, le-leb}
use Rattle.std.proofs.Math.Facts.{to_z-neg}
use Rattle.gang_types.specs.declared.types.IntType.TheVariants.{Int32}
use Rattle.gang_types.specs.Values.{value_of, residue}
use Rattle.gang_types.specs.Laws.{residue_is}
use Rattle.gang_types.specs.Masks.{IsGangWidth}
use Rattle.gang_model.specs.Running.Library.{value_at}
use Rattle.cross_lane.specs.Folds.{windowed}
use Rattle.cross_lane.proofs.Rows.{not_le}

-- the word of an int32, as a number of lanes
low_value : (n : ℕ) → n < 2 ^ 63 → value_of Int32 n ≡ pos n
unfolding value_of
low_value n h = to_z_pos w64 n h

high_value : (n : ℕ) → 2 ^ 63 ≤ n → n < 2 ^ 64 → value_of Int32 n ≡ pos n -ℤ pos (2 ^ 64)
unfolding value_of
high_value n low h =
    let e : n ≡ 2 ^ 64 - suc (2 ^ 64 - 1 - n) = omega arith in
    let f : negsuc (2 ^ 64 - 1 - n) ≡ pos n -ℤ pos (2 ^ 64) = omega (arith, ints) in
    ap (cast_signed w64) e ∙ to_z-neg w64 (2 ^ 64 - 1 - n) (omega arith) ∙ f

-- a gang's width divides 2 ^ 64
whole_turns : (w : ℕ) → IsGangWidth w → (c : ℕ) × (c * w ≡ 2 ^ 64)
whole_turns w (inl e) = (2 ^ 62, ap (λ i. 2 ^ 62 * i) e ∙ omega arith)
whole_turns w (inr (inl e)) = (2 ^ 61, ap (λ i. 2 ^ 61 * i) e ∙ omega arith)
whole_turns w (inr (inr e)) = (2 ^ 60, ap (λ i. 2 ^ 60 * i) e ∙ omega arith)

-- a lane turned by the word of an int32
pub turned_lane : (w n k : ℕ) → IsGangWidth w → n < 2 ^ 64 → 0 < w → residue w (pos k +ℤ value_of Int32 n) ≡ (k + n) % w
turned_lane w n k width h some =
    elim (cases_lt n (2 ^ 63)) [
      | inl low ↦
          ap (λ z. residue w (pos k +ℤ z)) (low_value n low)
          ∙ residue_is w (pos k +ℤ pos n) 0 (k + n) some (omega (arith, ints))
      | inr high ↦
          let (c, e) = whole_turns w width in
          let back : pos k +ℤ (pos n -ℤ pos (2 ^ 64)) +ℤ pos (c * w) ≡ pos (k + n) = ap (λ m. pos k +ℤ (pos n -ℤ pos (2 ^ 64)) +ℤ pos m) e ∙ omega (arith, ints) in
          ap (λ z. residue w (pos k +ℤ z)) (high_value n high h)
          ∙ residue_is w (pos k +ℤ (pos n -ℤ pos (2 ^ 64))) c (k + n) some back
    ]

-- a lane shifted by the word of an int32, in a row where lanes begin at 16
pub shifted_lane : (words : List ℕ) (n k : ℕ) → n < 2 ^ 64 → k < length words → length words ≤ 16
    → windowed 0 words (k + min ((n + 16) % 2 ^ 64) 32) ≡ value_at words (pos k +ℤ value_of Int32 n)
shifted_lane words n k h within few =
    elim (cases_lt n (2 ^ 63)) [
      | inl low ↦
          let e : pos k +ℤ value_of Int32 n ≡ pos (k + n) = ap (λ z. pos k +ℤ z) (low_value n low) ∙ omega (arith, ints) in
          ap (λ b. cond b (get_or words (k + min ((n + 16) % 2 ^ 64) 32 - 16) 0) 0) (le-leb 16 (k + min ((n + 16) % 2 ^ 64) 32) (omega arith))
          ∙ up low (cases_lt n 16)
          ∙ sym (ap (value_at words) e)
      | inr high ↦ down high (cases_lt (k + n) (2 ^ 64))
    ]
  where
    up : n < 2 ^ 63 → (n < 16) ⊎ (16 ≤ n) → get_or words (k + min ((n + 16) % 2 ^ 64) 32 - 16) 0 ≡ get_or words (k + n) 0
    up low (inl near) = ap (λ i. get_or words i 0) (omega arith)
    up low (inr far) = get_or_past words (k + min ((n + 16) % 2 ^ 64) 32 - 16) 0 (omega arith) ∙ sym (get_or_past words (k + n) 0 (omega arith))

    outside : 2 ^ 63 ≤ n → k + n < 2 ^ 64 → (n < 2 ^ 64 - 16) ⊎ (2 ^ 64 - 16 ≤ n) → windowed 0 words (k + min ((n + 16) % 2 ^ 64) 32) ≡ 0
    outside high out (inl far) =
        ap (λ b. cond b (get_or words (k + min ((n + 16) % 2 ^ 64) 32 - 16) 0) 0) (le-leb 16 (k + min ((n + 16) % 2 ^ 64) 32) (omega arith))
        ∙ get_or_past words (k + min ((n + 16) % 2 ^ 64) 32 - 16) 0 (omega arith)
    outside high out (inr near) = ap (λ b. cond b (get_or words (k + min ((n + 16) % 2 ^ 64) 32 - 16) 0) 0) (not_le 16 (k + min ((n + 16) % 2 ^ 64) 32) (omega arith))

    down : 2 ^ 63 ≤ n → (k + n < 2 ^ 64) ⊎ (2 ^ 64 ≤ k + n) → windowed 0 words (k + min ((n + 16) % 2 ^ 64) 32) ≡ value_at words (pos k +ℤ value_of Int32 n)
    down high (inl out) =
        let e : pos k +ℤ value_of Int32 n ≡ negsuc (2 ^ 64 - (k + n) - 1) = ap (λ z. pos k +ℤ z) (high_value n high h) ∙ omega (arith, ints) in
        outside high out (cases_lt n (2 ^ 64 - 16)) ∙ sym (ap (value_at words) e)
    down high (inr back) =
        let e : pos k +ℤ value_of Int32 n ≡ pos (k + n - 2 ^ 64) = ap (λ z. pos k +ℤ z) (high_value n high h) ∙ omega (arith, ints) in
        let there : k + min ((n + 16) % 2 ^ 64) 32 - 16 ≡ k + n - 2 ^ 64 = omega arith in
        ap (λ b. cond b (get_or words (k + min ((n + 16) % 2 ^ 64) 32 - 16) 0) 0) (le-leb 16 (k + min ((n + 16) % 2 ^ 64) 32) (omega arith))
        ∙ ap (λ i. get_or words i 0) there
        ∙ sym (ap (value_at words) e)
