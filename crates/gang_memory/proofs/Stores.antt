-- What a store to the elements of a part leaves in an array and outside the part.
use Rattle.std.proofs.Common.{ℕ, suc, ◌+◌, ◌<◌, ◌≤◌, ◌≢◌, ◌⊎◌, Bool, true, false, cond, ◌≡◌, refl, sym, ◌∙◌, ap, arith, List, [], ◌∷◌, length, slice_index, inl, inr}
use Rattle.std.specs.Prelude.{nat_eq}
use Rattle.std.proofs.lemmas.Bool.Decides.{nat_tests}
use Rattle.std.proofs.lemmas.Bool.{cases_lt, ne_eqb}
use Rattle.std.proofs.lemmas.List.{get_or_past}
use Rattle.gang_types.specs.Lanes.{Lanes, has}
use Rattle.gang_model.specs.Running.Lanes.{at, each}
use Rattle.gang_model.specs.Running.Step.{stored_in, scattered_from}
use Rattle.cross_lane.specs.EachLaws.{lane_kept, length-each}
use Rattle.gang_memory.specs.declared.parts.Part.{Part}
use Rattle.gang_memory.specs.Elements.{IsPartOf, StandsAt, stored}
use Rattle.gang_memory.specs.Parts.{AreSlots}
use Rattle.gang_memory.specs.Writes.{IsKeptOutside}
use Rattle.gang_memory.proofs.Attempts.{slot_of}
use Rattle.gang_memory.proofs.Scatters.{length-scattered, scattered_word}

same_moved : (base i j s : ℕ) → s ≡ base + j → nat_eq (base + i) s ≡ nat_eq i j
same_moved base i j s h = grind (arith, nat_tests)

lane_moved : (b : Bool) (base i j s value old : ℕ) → (b ≡ true → s ≡ base + j) → cond b (cond (nat_eq (base + i) s) value old) old ≡ cond b (cond (nat_eq i j) value old) old
lane_moved true base i j s value old h = ap (λ t. cond t value old) (same_moved base i j s (h refl))
lane_moved false base i j s value old h = refl

-- a store among words is a store to a list that begins at `base`
stored_moved : (base i : ℕ) (lanes : Lanes) (slots indices values : List ℕ) (old : ℕ) → length slots ≡ length indices → ((k : ℕ) → has lanes k ≡ true → slice_index slots k ≡ base + slice_index indices k)
    → stored_in (base + i) lanes slots values old ≡ stored_in i lanes indices values old
stored_moved base i [] slots indices values old e h = refl
stored_moved base i (b ∷ lanes) [] [] values old e h = refl
stored_moved base i (b ∷ lanes) [] (j ∷ indices) values old e h = absurd (omega arith)
stored_moved base i (b ∷ lanes) (s ∷ slots) [] values old e h = absurd (omega arith)
stored_moved base i (b ∷ lanes) (s ∷ slots) (j ∷ indices) [] old e h = refl
stored_moved base i (b ∷ lanes) (s ∷ slots) (j ∷ indices) (x ∷ values) old e h =
    ap (stored_in (base + i) lanes slots values) (lane_moved b base i j s x old (h 0))
    ∙ stored_moved base i lanes slots indices values (cond b (cond (nat_eq i j) x old) old) (omega arith) (λ k. h (suc k))

pub lane_elsewhere : (b : Bool) (i s value old : ℕ) → (b ≡ true → i ≢ s) → cond b (cond (nat_eq i s) value old) old ≡ old
lane_elsewhere true i s value old h = ap (λ t. cond t value old) (ne_eqb i s (h refl))
lane_elsewhere false i s value old h = refl

-- there are as many words as before
pub length_kept : (lanes : Lanes) (slots values old new : List ℕ) → new ≡ scattered_from 0 lanes slots values old → length new ≡ length old
length_kept lanes slots values old new stores = ap length stores ∙ length-scattered 0 lanes slots values old

-- a word that no lane names
pub stored_elsewhere : (i : ℕ) (lanes : Lanes) (slots values : List ℕ) (old : ℕ) → ((k : ℕ) → has lanes k ≡ true → i ≢ slice_index slots k) → stored_in i lanes slots values old ≡ old
stored_elsewhere i [] slots values old h = refl
stored_elsewhere i (b ∷ lanes) [] values old h = refl
stored_elsewhere i (b ∷ lanes) (s ∷ slots) [] old h = refl
stored_elsewhere i (b ∷ lanes) (s ∷ slots) (x ∷ values) old h =
    ap (stored_in i lanes slots values) (lane_elsewhere b i s x old (h 0)) ∙ stored_elsewhere i lanes slots values old (λ k. h (suc k))

-- where each lane's slot is among the `len` from `first` on, the words outside them are as before
pub kept_outside : (first len : ℕ) (lanes : Lanes) (slots values old new : List ℕ) → new ≡ scattered_from 0 lanes slots values old
    → ((k : ℕ) → has lanes k ≡ true → (first ≤ slice_index slots k) × (slice_index slots k < first + len)) → IsKeptOutside first len old new
kept_outside first len lanes slots values old new stores within =
    let long = length_kept lanes slots values old new stores in
    record {
      long = long;
      same = λ i out. elim (cases_lt i (length old)) [
        | inl inside ↦
            ap (λ ws. slice_index ws i) stores
            ∙ scattered_word lanes slots values old i inside
            ∙ stored_elsewhere i lanes slots values (slice_index old i) (λ k e. apart i out (slice_index slots k) (within k e))
        | inr past ↦ get_or_past new i 0 (omega (arith, past, long)) ∙ sym (get_or_past old i 0 past)
      ];
    }
  where
    apart : (i : ℕ) → (i < first) ⊎ (first + len ≤ i) → (slot : ℕ) → (first ≤ slot) × (slot < first + len) → i ≢ slot
    apart i (inl before) slot h = omega (arith, before, h.0)
    apart i (inr after) slot h = omega (arith, after, h.1)

module _ (part : Part) (lanes : Lanes) (indices slots values old new : List ℕ) (are : AreSlots part lanes indices slots) (stores : new ≡ scattered_from 0 lanes slots values old) where
  -- the words are those of the definition
  pub words_stored : new ≡ stored part.first lanes indices values old
  words_stored = stores ∙ ap (λ ss. scattered_from 0 lanes ss values old) are.slots_are

  -- an array among the words is stored to
  pub array_stored : (base first : ℕ) (array : List ℕ) → IsPartOf base array first part → StandsAt base array old → StandsAt base (stored first lanes indices values array) new
  array_stored base first array in' stands =
      let targets : List ℕ = each lanes (λ k. first + at indices k) in
      let slots_long : length slots ≡ length lanes = ap length are.slots_are ∙ length-each lanes (λ k. part.first + at indices k) in
      let targets_long : length targets ≡ length lanes = length-each lanes (λ k. first + at indices k) in
      let long : length (stored first lanes indices values array) ≡ length array = length-scattered 0 lanes targets values array in
      let kept = length_kept lanes slots values old new stores in
      record {
        inside = omega (arith, long, kept, stands.inside);
        same = λ i l.
            let within : i < length array = omega (arith, l, long) in
            ap (λ ws. slice_index ws (base + i)) stores
            ∙ scattered_word lanes slots values old (base + i) (omega (arith, within, stands.inside))
            ∙ stored_moved base i lanes slots targets values (slice_index old (base + i)) (slots_long ∙ sym targets_long)
            (λ k e. let begins = in'.begins in let target = lane_kept lanes (λ j. first + at indices j) k e in omega (arith, begins, target, slot_of part lanes indices slots are k e))
            ∙ ap (stored_in i lanes targets values) (stands.same i within)
            ∙ sym (scattered_word lanes targets values array i within);
      }

  -- words outside the part are as before
  pub part_kept : IsKeptOutside part.first part.len old new
  part_kept =
      kept_outside part.first part.len lanes slots values old new stores
      (λ k e. let slot = slot_of part lanes indices slots are k e in let there = are.there k e in (omega (arith, slot), omega (arith, slot, there)))
