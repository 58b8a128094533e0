-- What follows from the definitions of `Masks`.
use Rattle.std.proofs.Common.{ℕ, zero, suc, ◌-◌, ◌^◌, ◌<◌, ◌≤◌, Bool, true, false, cond, ◌≡◌, refl, sym, ◌∙◌, ap, arith, length, inl, inr}
use Rattle.std.specs.Prelude.{nat_eq, bit_and, min, ◌==◌}
use Rattle.std.specs.Int.{bit_at}
use Rattle.std.proofs.lemmas.Bool.{cases_lt}
use Rattle.std.proofs.lemmas.Simd.{bit_mask_l, mask_l-lt}
use Rattle.std.proofs.lemmas.Nat.Bits.{bit_at-lt, bit_at_and, bit_at_ones, bit_at_ones_above, same_from_bits}
use Rattle.gang_types.specs.Lanes.{Lanes, has}
use Rattle.gang_types.specs.LaneLaws.{same_lanes, has_past, length-lanes_from, has-lanes_from}
use Rattle.gang_types.specs.Masks.{IsGangWidth, lanes_of_word, word_of_lanes}

pub gang_width-le : (w : ℕ) → IsGangWidth w → w ≤ 16
gang_width-le w (inl e) = omega arith
gang_width-le w (inr (inl e)) = omega arith
gang_width-le w (inr (inr e)) = omega arith

bit_back : (b : ℕ) → b < 2 → cond (nat_eq b 1) 1 0 ≡ b
bit_back zero h = refl
bit_back (suc zero) h = refl
bit_back (suc (suc b)) h = absurd (omega arith)

pub length-lanes_of_word : (w word : ℕ) → length (lanes_of_word w word) ≡ w
unfolding lanes_of_word
length-lanes_of_word w word = length-lanes_from 0 w (λ k. bit_at word k == 1)

pub has-lanes_of_word : (w word k : ℕ) → k < w → has (lanes_of_word w word) k ≡ nat_eq (bit_at word k) 1
unfolding lanes_of_word
has-lanes_of_word w word k h = has-lanes_from 0 w (λ k. bit_at word k == 1) k h ∙ ap (λ i. nat_eq (bit_at word i) 1) (omega arith)

pub has-lanes_of_word_past : (w word k : ℕ) → w ≤ k → has (lanes_of_word w word) k ≡ false
has-lanes_of_word_past w word k h = has_past (lanes_of_word w word) k (omega (arith, length-lanes_of_word w word))

-- a set of w lanes is known by its lanes below w
pub lanes_of_word_is : (w word : ℕ) (lanes : Lanes) → length lanes ≡ w → ((k : ℕ) → k < w → nat_eq (bit_at word k) 1 ≡ has lanes k) → lanes_of_word w word ≡ lanes
lanes_of_word_is w word lanes e h =
    same_lanes (lanes_of_word w word) lanes (length-lanes_of_word w word ∙ sym e)
    (λ k. elim (cases_lt k w) [
      | inl below ↦ has-lanes_of_word w word k below ∙ h k below
      | inr past ↦ has-lanes_of_word_past w word k past ∙ sym (has_past lanes k (omega arith))
    ])

bit_word_of_lanes : (lanes : Lanes) (k : ℕ) → bit_at (word_of_lanes lanes) k ≡ cond (has lanes k) 1 0
unfolding word_of_lanes
bit_word_of_lanes lanes k = bit_mask_l lanes k

one_is : (b : Bool) → nat_eq (cond b 1 0) 1 ≡ b
one_is true = refl
one_is false = refl

-- a set is kept by its word
pub lanes_of_word_of_lanes : (w : ℕ) (lanes : Lanes) → length lanes ≡ w → lanes_of_word w (word_of_lanes lanes) ≡ lanes
lanes_of_word_of_lanes w lanes e =
    lanes_of_word_is w (word_of_lanes lanes) lanes e (λ k h. ap (λ b. nat_eq b 1) (bit_word_of_lanes lanes k) ∙ one_is (has lanes k))

pub word_of_lanes-lt : (lanes : Lanes) → word_of_lanes lanes < 2 ^ length lanes
unfolding word_of_lanes
word_of_lanes-lt lanes = mask_l-lt lanes

-- the lowest bits of a word, as many as the gang has lanes, are the word of its lanes
pub word_of_lanes_of_word : (w word : ℕ) → word_of_lanes (lanes_of_word w word) ≡ bit_and word (2 ^ w - 1)
word_of_lanes_of_word w word =
    same_from_bits (word_of_lanes (lanes_of_word w word)) (bit_and word (2 ^ w - 1))
    (λ k. bit_word_of_lanes (lanes_of_word w word) k ∙ elim (cases_lt k w) [
      | inl below ↦
          ap (λ b. cond b 1 0) (has-lanes_of_word w word k below)
          ∙ bit_back (bit_at word k) (bit_at-lt word k)
          ∙ kept (bit_at word k) (bit_at (2 ^ w - 1) k) (bit_at-lt word k) (bit_at_ones w k below)
          ∙ sym (bit_at_and word (2 ^ w - 1) k)
      | inr past ↦
          ap (λ b. cond b 1 0) (has-lanes_of_word_past w word k past)
          ∙ dropped (bit_at word k) (bit_at (2 ^ w - 1) k) (bit_at_ones_above w k past)
          ∙ sym (bit_at_and word (2 ^ w - 1) k)
    ])
  where
    kept : (a b : ℕ) → a < 2 → b ≡ 1 → a ≡ min a b
    kept a b h e = omega arith

    dropped : (a b : ℕ) → b ≡ 0 → 0 ≡ min a b
    dropped a b e = omega arith
