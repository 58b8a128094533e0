-- What a store by lanes leaves in each word.
use Rattle.std.proofs.Common.{ℕ, zero, suc, ◌+◌, ◌<◌, true, false, cond, ◌≡◌, refl, sym, ◌∙◌, ap, arith, List, [], ◌∷◌, length, slice_index, inl, inr}
use Rattle.std.specs.Prelude.{nat_eq, slice_set, take}
use Rattle.std.proofs.lemmas.Bool.{cases_eq, eq-eqb, ne_eqb}
use Rattle.std.proofs.lemmas.List.{get_or-set_same, get_or-set_other, length-set}
use Rattle.cross_lane.specs.EachLaws.{same_words}
use Rattle.cross_lane.proofs.Members.{take_whole}
use Rattle.gang_types.specs.Lanes.{Lanes, has}
use Rattle.gang_model.specs.Running.Step.{stored_in, scattered_from}

pub length-scattered : (k : ℕ) (lanes : Lanes) (slots values words : List ℕ) → length (scattered_from k lanes slots values words) ≡ length words
length-scattered k lanes slots values [] = refl
length-scattered k lanes slots values (old ∷ words) = ap suc (length-scattered (suc k) lanes slots values words)

scattered_word_from : (k : ℕ) (lanes : Lanes) (slots values words : List ℕ) (i : ℕ) → i < length words → slice_index (scattered_from k lanes slots values words) i ≡ stored_in (k + i) lanes slots values (slice_index words i)
scattered_word_from k lanes slots values [] i h = absurd (omega arith)
scattered_word_from k lanes slots values (old ∷ words) zero h = ap (λ j. stored_in j lanes slots values old) (omega arith)
scattered_word_from k lanes slots values (old ∷ words) (suc i) h =
    scattered_word_from (suc k) lanes slots values words i (omega arith)
    ∙ ap (λ j. stored_in j lanes slots values (slice_index words i)) (omega arith)

pub scattered_word : (lanes : Lanes) (slots values words : List ℕ) (i : ℕ) → i < length words → slice_index (scattered_from 0 lanes slots values words) i ≡ stored_in i lanes slots values (slice_index words i)
scattered_word lanes slots values words i h =
    scattered_word_from 0 lanes slots values words i h ∙ ap (λ j. stored_in j lanes slots values (slice_index words i)) (omega arith)

-- words after a store are known by what each is
pub scattered_is : (lanes : Lanes) (slots values old new : List ℕ) → length new ≡ length old → ((i : ℕ) → i < length old → slice_index new i ≡ stored_in i lanes slots values (slice_index old i))
    → new ≡ scattered_from 0 lanes slots values old
scattered_is lanes slots values old new long h =
    same_words new (scattered_from 0 lanes slots values old) (long ∙ sym (length-scattered 0 lanes slots values old))
    (λ i l. h i (omega arith) ∙ sym (scattered_word lanes slots values old i (omega arith)))

stored_after : (i : ℕ) (lanes : Lanes) (slots values : List ℕ) (old n : ℕ) → n < length lanes → length slots ≡ length lanes → length values ≡ length lanes
    → stored_in i (take (suc n) lanes) slots values old
    ≡ cond (has lanes n) (cond (nat_eq i (slice_index slots n)) (slice_index values n) (stored_in i (take n lanes) slots values old)) (stored_in i (take n lanes) slots values old)
stored_after i [] slots values old n h e f = absurd (omega arith)
stored_after i (b ∷ lanes) [] values old n h e f = absurd (omega arith)
stored_after i (b ∷ lanes) (j ∷ slots) [] old n h e f = absurd (omega arith)
stored_after i (b ∷ lanes) (j ∷ slots) (x ∷ values) old zero h e f = refl
stored_after i (b ∷ lanes) (j ∷ slots) (x ∷ values) old (suc n) h e f =
    stored_after i lanes slots values (cond b (cond (nat_eq i j) x old) old) n (omega arith) (omega arith) (omega arith)

-- what one lane more leaves
pub stored_more : (i : ℕ) (lanes : Lanes) (slots values : List ℕ) (old n : ℕ) → n < length lanes → length slots ≡ length lanes → length values ≡ length lanes
    → stored_in i (take (n + 1) lanes) slots values old
    ≡ cond (has lanes n) (cond (nat_eq i (slice_index slots n)) (slice_index values n) (stored_in i (take n lanes) slots values old)) (stored_in i (take n lanes) slots values old)
stored_more i lanes slots values old n h e f =
    let more : n + 1 ≡ suc n = omega arith in
    ap (λ m. stored_in i (take m lanes) slots values old) more ∙ stored_after i lanes slots values old n h e f

-- a word after one is set
pub word_set : (words : List ℕ) (slot value i : ℕ) → slot < length words → slice_index (slice_set words slot value) i ≡ cond (nat_eq i slot) value (slice_index words i)
word_set words slot value i h =
    elim (cases_eq i slot) [
      | inl same ↦
          ap (slice_index (slice_set words slot value)) same
          ∙ get_or-set_same words slot value 0 h
          ∙ sym (ap (λ b. cond b value (slice_index words i)) (eq-eqb i slot same))
      | inr other ↦ get_or-set_other words slot i value 0 other ∙ sym (ap (λ b. cond b value (slice_index words i)) (ne_eqb i slot other))
    ]

-- the words, after the lanes below n have stored to old ones
pub record StoredTo (lanes : Lanes) (slots values : List ℕ) (n : ℕ) (old new : List ℕ) : Type 0 where
  pub long : length new ≡ length old
  pub words : (i : ℕ) → i < length old → slice_index new i ≡ stored_in i (take n lanes) slots values (slice_index old i)

module _ (lanes : Lanes) (slots values : List ℕ) (n : ℕ) (old new : List ℕ) (h : n < length lanes) (e : length slots ≡ length lanes) (f : length values ≡ length lanes) (so_far : StoredTo lanes slots values n old new) where
  pub lane_stores : (next : List ℕ) → has lanes n ≡ true → slice_index slots n < length new → next ≡ slice_set new (slice_index slots n) (slice_index values n) → StoredTo lanes slots values (n + 1) old next
  lane_stores next here within is = record {
    long = ap length is ∙ length-set new (slice_index slots n) (slice_index values n) ∙ so_far.long;
    words = λ i l.
        ap (λ ws. slice_index ws i) is
        ∙ word_set new (slice_index slots n) (slice_index values n) i within
        ∙ ap (cond (nat_eq i (slice_index slots n)) (slice_index values n)) (so_far.words i l)
        ∙ sym (stored_more i lanes slots values (slice_index old i) n h e f ∙ ap (λ b. cond b (cond (nat_eq i (slice_index slots n)) (slice_index values n) (stored_in i (take n lanes) slots values (slice_index old i))) (stored_in i (take n lanes) slots values (slice_index old i))) here);
  }

  pub lane_passes : has lanes n ≡ false → StoredTo lanes slots values (n + 1) old new
  lane_passes none = record {
    long = so_far.long;
    words = λ i l.
        so_far.words i l
        ∙ sym (stored_more i lanes slots values (slice_index old i) n h e f ∙ ap (λ b. cond b (cond (nat_eq i (slice_index slots n)) (slice_index values n) (stored_in i (take n lanes) slots values (slice_index old i))) (stored_in i (take n lanes) slots values (slice_index old i))) none);
  }

-- after the last lane the store is whole
pub all_stored : (w : ℕ) (lanes : Lanes) (slots values : List ℕ) (n : ℕ) (old new : List ℕ) → length lanes ≡ w → n ≡ w → StoredTo lanes slots values n old new → new ≡ scattered_from 0 lanes slots values old
all_stored w lanes slots values n old new long e stored =
    let whole : take n lanes ≡ lanes = ap (λ m. take m lanes) e ∙ take_whole w lanes long in
    scattered_is lanes slots values old new stored.long (λ i l. stored.words i l ∙ ap (λ ls. stored_in i ls slots values (slice_index old i)) whole)
