-- Lists that have so many elements and are known one by one.
use Rattle.std.proofs.Common.{◌≡◌, refl, sym, ap, ap₂, ◌∙◌, ℕ, suc, ◌+◌, ◌<◌, ◌≤◌, Bool, true, false, ℤ, List, [], ◌∷◌, map, length, slice_index, slice_set, Option, None, is_some, inl, inr, arith}
use Rattle.std.proofs.lemmas.Bool.{cases_lt}
use Rattle.std.proofs.lemmas.List.{length-set, get_or-set_same, get_or-set_other}
use Rattle.std.specs.Prelude.{◌&&◌}
use Rattle.gang_types.specs.Lanes.{Lanes, has, lanes_where}
use Rattle.gang_types.specs.LaneLaws.{same_lanes, has_past, length-lanes_where, has-lanes_where}
use Rattle.gang_model.specs.Running.Rounds.{counted, slot_word}
use Rattle.foreach_lowering.proofs.Counting.{map_map}

words_from : (xs : List ℕ) (g : ℕ → ℕ) (k : ℕ) → ((i : ℕ) → i < length xs → slice_index xs i ≡ g (k + i)) → xs ≡ map g (counted k (length xs))
words_from [] g k h = refl
words_from (x ∷ xs) g k h =
    ap₂ (λ y ys. y ∷ ys) (h 0 (omega arith) ∙ (let e : k + 0 ≡ k = omega arith in ap g e))
    (words_from xs g (suc k) (λ i within. h (suc i) (omega (arith, within)) ∙ (let e : k + suc i ≡ suc k + i = omega arith in ap g e)))

lanes_from : (xs : Lanes) (g : ℕ → Bool) (k : ℕ) → ((i : ℕ) → i < length xs → has xs i ≡ g (k + i)) → xs ≡ map g (counted k (length xs))
lanes_from [] g k h = refl
lanes_from (x ∷ xs) g k h =
    ap₂ (λ y ys. y ∷ ys) (h 0 (omega arith) ∙ (let e : k + 0 ≡ k = omega arith in ap g e))
    (lanes_from xs g (suc k) (λ i within. h (suc i) (omega (arith, within)) ∙ (let e : k + suc i ≡ suc k + i = omega arith in ap g e)))

-- the words of lanes by their slots
pub words_by_lane : (xs : List ℕ) (slot : ℕ → Option (List ℤ)) (j width : ℕ) → length xs ≡ width → ((k : ℕ) → k < width → slice_index xs k ≡ slot_word j (slot k))
    → xs ≡ map (slot_word j) (map slot (counted 0 width))
words_by_lane xs slot j width long h =
    words_from xs (λ k. slot_word j (slot k)) 0 (λ i within. h i (omega (arith, within, long)) ∙ (let e : i ≡ 0 + i = omega arith in ap (λ k. slot_word j (slot k)) e))
    ∙ (ap (λ n. map (λ k. slot_word j (slot k)) (counted 0 n)) long ∙ sym (map_map (slot_word j) slot (counted 0 width)))

-- the lanes that have a slot
pub lanes_by_lane : (xs : Lanes) (slot : ℕ → Option (List ℤ)) (width : ℕ) → length xs ≡ width → ((k : ℕ) → k < width → has xs k ≡ is_some (slot k)) → xs ≡ map is_some (map slot (counted 0 width))
lanes_by_lane xs slot width long h =
    lanes_from xs (λ k. is_some (slot k)) 0 (λ i within. h i (omega (arith, within, long)) ∙ (let e : i ≡ 0 + i = omega arith in ap (λ k. is_some (slot k)) e))
    ∙ (ap (λ n. map (λ k. is_some (slot k)) (counted 0 n)) long ∙ sym (map_map is_some slot (counted 0 width)))

-- ---- a set that gets its lanes one after another

-- the lanes below one that pass a test
abbrev pub AreBelow : (test : ℕ → Bool) → (lane : ℕ) → Lanes → Type 0
AreBelow test lane lanes = ((k : ℕ) → k < lane → has lanes k ≡ test k) × ((k : ℕ) → lane ≤ k → has lanes k ≡ false)

pub one_lane_more : (old new : Lanes) (test : ℕ → Bool) (i : ℕ) → i < length old → test i ≡ true → new ≡ slice_set old i true → AreBelow test i old → AreBelow test (i + 1) new
one_lane_more old new test i within e is (below, past) = (
  λ k h. elim (cases_lt k i) [
    | inl less ↦ ap (λ lanes. has lanes k) is ∙ (get_or-set_other old i k true false (λ same. absurd (omega (arith, less, same))) ∙ below k less)
    | inr more ↦
        let same : k ≡ i = omega (arith, h, more) in
        ap (λ lanes. has lanes k) is ∙ (ap (has (slice_set old i true)) same ∙ (get_or-set_same old i true false within ∙ (sym e ∙ ap test (sym same))))
  ],
  λ k h. ap (λ lanes. has lanes k) is ∙ (get_or-set_other old i k true false (λ same. absurd (omega (arith, h, same))) ∙ past k (omega (arith, h))),
)

pub no_lane_more : (lanes : Lanes) (test : ℕ → Bool) (i : ℕ) → test i ≡ false → AreBelow test i lanes → AreBelow test (i + 1) lanes
no_lane_more lanes test i e (below, past) = (
  λ k h. elim (cases_lt k i) [
    | inl less ↦ below k less
    | inr more ↦ let same : k ≡ i = omega (arith, h, more) in past k more ∙ (sym e ∙ ap test (sym same))
  ],
  λ k h. past k (omega (arith, h)),
)

-- the lanes of a set that pass a test
pub where_by_lane : (xs lanes : Lanes) (test : ℕ → Bool) (width : ℕ) → length xs ≡ width → length lanes ≡ width → ((k : ℕ) → k < width → has xs k ≡ (has lanes k && test k)) → xs ≡ lanes_where lanes test
where_by_lane xs lanes test width e f h =
    same_lanes xs (lanes_where lanes test) (e ∙ sym (length-lanes_where lanes test ∙ f))
    (λ k. elim (cases_lt k width) [
      | inl within ↦ h k within ∙ sym (has-lanes_where lanes test k)
      | inr past ↦ has_past xs k (omega (arith, e, past)) ∙ sym (has_past (lanes_where lanes test) k (omega (arith, f, past, length-lanes_where lanes test)))
    ])

-- ---- words that are set lane by lane

-- the words of a dimension in the lanes below one, by their slots, and 0 in the others
pub record AreWordsBelow (j : ℕ) (slot : ℕ → Option (List ℤ)) (width lane : ℕ) (words : List ℕ) : Type 0 where
  pub long : length words ≡ width
  pub below : (k : ℕ) → k < lane → slice_index words k ≡ slot_word j (slot k)
  pub past : (k : ℕ) → lane ≤ k → slice_index words k ≡ 0

pub one_word_more : (old new : List ℕ) (j : ℕ) (slot : ℕ → Option (List ℤ)) (width i word : ℕ) → i < width → word ≡ slot_word j (slot i) → new ≡ slice_set old i word
    → AreWordsBelow j slot width i old → AreWordsBelow j slot width (i + 1) new
one_word_more old new j slot width i word within e is words = record {
  long = ap length is ∙ (length-set old i word ∙ words.long);
  below = λ k h. elim (cases_lt k i) [
    | inl less ↦ ap (λ ws. slice_index ws k) is ∙ (get_or-set_other old i k word 0 (λ same. absurd (omega (arith, less, same))) ∙ words.below k less)
    | inr more ↦
        let same : k ≡ i = omega (arith, h, more) in
        ap (λ ws. slice_index ws k) is ∙ (ap (slice_index (slice_set old i word)) same ∙ (get_or-set_same old i word 0 (omega (arith, within, words.long)) ∙ (e ∙ ap (λ n. slot_word j (slot n)) (sym same))))
  ];
  past = λ k h. ap (λ ws. slice_index ws k) is ∙ (get_or-set_other old i k word 0 (λ same. absurd (omega (arith, h, same))) ∙ words.past k (omega (arith, h)));
}

pub no_word_more : (words : List ℕ) (j : ℕ) (slot : ℕ → Option (List ℤ)) (width i : ℕ) → slot i ≡ None → AreWordsBelow j slot width i words → AreWordsBelow j slot width (i + 1) words
no_word_more words j slot width i e known = record {
  long = known.long;
  below = λ k h. elim (cases_lt k i) [
    | inl less ↦ known.below k less
    | inr more ↦ let same : k ≡ i = omega (arith, h, more) in known.past k more ∙ sym (ap (λ n. slot_word j (slot n)) same ∙ ap (slot_word j) e)
  ];
  past = λ k h. known.past k (omega (arith, h));
}
