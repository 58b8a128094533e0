-- What follows from the definition of a list with a value for each lane of a set, and 0 in the others.
use Rattle.std.proofs.Common.{inl, inr, ℕ, zero, suc, ◌+◌, ◌<◌, Bool, true, false, cond, ◌≡◌, refl, sym, ◌∙◌, ap, arith, eq-eqb, List, [], ◌∷◌, length, slice_index}
use Rattle.std.specs.Prelude.{nat_eq, slice_set}
use Rattle.std.specs.List.{range_with_len}
use Rattle.std.proofs.lemmas.Bool.Decides.{nat_tests}
use Rattle.std.proofs.lemmas.List.FromFn.{get_or-range_with_len}
use Rattle.std.proofs.lemmas.List.{get_or-set_same, get_or-set_other}
use Rattle.std.proofs.lemmas.Bool.{cases_eq}
use Rattle.gang_types.specs.Lanes.{Lanes, has}
use Rattle.gang_model.specs.Running.Lanes.{words_from, each}
use Rattle.gang_model.proofs.LaneWords.{length-words_from}

-- two lists with the same words
pub same_words : (xs ys : List ℕ) → length xs ≡ length ys → ((i : ℕ) → i < length xs → slice_index xs i ≡ slice_index ys i) → xs ≡ ys
same_words [] [] e h = refl
same_words [] (y ∷ ys) e h = absurd (omega arith)
same_words (x ∷ xs) [] e h = absurd (omega arith)
same_words (x ∷ xs) (y ∷ ys) e h = ap (λ z. z ∷ xs) (h 0 (omega arith)) ∙ ap (λ zs. y ∷ zs) (same_words xs ys (omega arith) (λ i l. h (suc i) (omega arith)))

pub length-each : (lanes : Lanes) (f : ℕ → ℕ) → length (each lanes f) ≡ length lanes
length-each lanes f = length-words_from 0 lanes f

lane_words_from : (k : ℕ) (lanes : Lanes) (f : ℕ → ℕ) (i : ℕ) → slice_index (words_from k lanes f) i ≡ cond (has lanes i) (f (k + i)) 0
lane_words_from k [] f i = refl
lane_words_from k (b ∷ lanes) f zero = ap (λ j. cond b (f j) 0) (omega arith)
lane_words_from k (b ∷ lanes) f (suc i) = lane_words_from (suc k) lanes f i ∙ ap (λ j. cond (has lanes i) (f j) 0) (omega arith)

pub lane_each : (lanes : Lanes) (f : ℕ → ℕ) (i : ℕ) → slice_index (each lanes f) i ≡ cond (has lanes i) (f i) 0
lane_each lanes f i = lane_words_from 0 lanes f i ∙ ap (λ j. cond (has lanes i) (f j) 0) (omega arith)

pub each_is : (w : ℕ) (lanes : Lanes) (f : ℕ → ℕ) (xs : List ℕ) → length lanes ≡ w → length xs ≡ w → ((i : ℕ) → i < w → slice_index xs i ≡ cond (has lanes i) (f i) 0) → xs ≡ each lanes f
each_is w lanes f xs ll lx h = same_words xs (each lanes f) (lx ∙ sym ll ∙ sym (length-each lanes f)) (λ i l. h i (omega arith) ∙ sym (lane_each lanes f i))

pub each_same : (w : ℕ) (lanes : Lanes) (f g : ℕ → ℕ) → length lanes ≡ w → ((i : ℕ) → i < w → has lanes i ≡ true → f i ≡ g i) → each lanes f ≡ each lanes g
each_same w lanes f g ll h =
    each_is w lanes g (each lanes f) ll (length-each lanes f ∙ ll) (λ i l. lane_each lanes f i ∙ by_lane i l (has lanes i) refl)
  where
    by_lane : (i : ℕ) → i < w → (b : Bool) → has lanes i ≡ b → cond b (f i) 0 ≡ cond b (g i) 0
    by_lane i l true e = h i l e
    by_lane i l false e = refl

-- a lane of the set keeps its value
pub lane_kept : (lanes : Lanes) (f : ℕ → ℕ) (i : ℕ) → has lanes i ≡ true → slice_index (each lanes f) i ≡ f i
lane_kept lanes f i e = lane_each lanes f i ∙ ap (λ b. cond b (f i) 0) e

-- one value set, in a lane of the set
pub lane_set : (lanes : Lanes) (words : List ℕ) (index new i : ℕ) → index < length words → has lanes i ≡ true
    → slice_index (slice_set words index new) i ≡ cond (nat_eq i index) new (slice_index (each lanes (slice_index words)) i)
lane_set lanes words index new i h e =
    elim (cases_eq i index) [
      | inl same ↦
          ap (slice_index (slice_set words index new)) same
          ∙ get_or-set_same words index new 0 h
          ∙ sym (ap (λ b. cond b new (slice_index (each lanes (slice_index words)) i)) (ap (λ j. nat_eq i j) (sym same) ∙ eq-eqb i i refl))
      | inr other ↦
          get_or-set_other words index i new 0 other
          ∙ sym (lane_kept lanes (slice_index words) i e)
          ∙ sym (ap (λ b. cond b new (slice_index (each lanes (slice_index words)) i)) (two_differ i index other))
    ]
  where
    two_differ : (a b : ℕ) → (a ≡ b → ⊥) → nat_eq a b ≡ false
    two_differ a b h = grind (arith, nat_tests)

-- the numbers of the lanes: that of lane i is i
pub lane_number : (w : ℕ) (numbers : List ℕ) → numbers ≡ range_with_len 0 w → (i : ℕ) → i < w → slice_index numbers i ≡ i
lane_number w numbers all i h =
    let from_0 : 0 + i ≡ i = omega arith in
    ap (λ xs. slice_index xs i) all ∙ get_or-range_with_len 0 w i 0 h ∙ from_0
