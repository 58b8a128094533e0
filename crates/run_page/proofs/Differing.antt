-- From what is new in rows to what differs between two moments.
use Rattle.std.proofs.Common.{◌≡◌, ap, ◌∙◌, subst, ℕ, zero, suc, List, [], ◌∷◌, length, map, Option, Some, None, arith}
use Rattle.std.specs.Prelude.{slice_get, All, Contains, option_map}
use Rattle.std.proofs.lemmas.List.Elements.{All-weaker}
use Rattle.gang_model.specs.Types.Tree.{Program}
use Rattle.gang_model.specs.Running.State.{State}
use Rattle.run_page.specs.declared.views.Change.{Change}
use Rattle.run_page.specs.declared.views.Change.TheVariants as change
use Rattle.run_page.specs.declared.views.Row.{Row}
use Rattle.run_page.specs.Changes.{Difference, Differs, HasWord, IsGone, Showed, TellDifferences, WasSeen, told}
use Rattle.run_page.specs.Rows.{AreConsistent, AreDistinct, AreRows, AreRowsOf, Grows, HasRow, IsNew, all_seen}
use Rattle.run_page.specs.Sights.{IsSeen, Sight, words_at}
use Rattle.run_page.proofs.Places.{at_place, place_of}
use Rattle.run_page.proofs.RowsRead.{rows_stay}
use Rattle.run_page.proofs.Seeing.{consistent, none_consistent, numbered_row, row_seen, seen_row, taken_get}

-- what is told of a change that is among others
pub told_among : (sights : List Sight) (changes : List Change) (it : Change) (difference : Difference) → told sights it ≡ Some difference → Contains changes it → Contains (map (told sights) changes) (Some difference)
told_among sights changes it difference is there = let (k, here) = place_of changes it there in at_place (map (told sights) changes) (Some difference) k (go changes k here)
  where
    go : (changes : List Change) (k : ℕ) → slice_get changes k ≡ Some it → slice_get (map (told sights) changes) k ≡ Some (Some difference)
    go [] k here = absurd (cc (here))
    go (x ∷ changes) zero here = let same : x ≡ it = cc (here) in ap Some (ap (told sights) same ∙ is)
    go (x ∷ changes) (suc k) here = go changes k here

module _ (sights : List Sight) (distinct : AreDistinct sights) (most : ℕ) (p : Program) where
  -- of the rows of a moment, or of none
  pub before_consistent : (before : Option State) (rows : List Row) → AreRowsOf sights most p before rows → AreConsistent rows
  before_consistent None rows none = none_consistent rows none
  before_consistent (Some state) rows are = consistent sights distinct most p state rows are

  -- a row of the moment before, as what was seen
  row_was : (before : Option State) (rows : List Row) → AreRowsOf sights most p before rows → (number : ℕ) (row : Row) → HasRow rows number row
      → (sight : Sight) × (slice_get sights number ≡ Some sight) × WasSeen p before sight × ((part word : ℕ) → slice_get row.words.items part ≡ Some word → Showed p most before sight part word)
  row_was None rows none number row ((k, within, is), same) = absurd (omega (arith, within, ap length none))
  row_was (Some state) rows are number row has = row_seen sights distinct most p state rows are number row has

  was_row : (before : Option State) (rows : List Row) → AreRowsOf sights most p before rows → (number : ℕ) (sight : Sight) → slice_get sights number ≡ Some sight → WasSeen p before sight → (row : Row) × HasRow rows number row
  was_row None rows none number sight numbered seen = absurd seen
  was_row (Some state) rows are number sight numbered (v, sees) = let (row, has, words) = numbered_row sights distinct most p state rows are number sight v numbered sees in (row, has)

  was_number : (before : Option State) (rows : List Row) → AreRowsOf sights most p before rows → (sight : Sight) → WasSeen p before sight → (number : ℕ) × (row : Row) × HasRow rows number row × (slice_get sights number ≡ Some sight)
  was_number None rows none sight seen = absurd seen
  was_number (Some state) rows are sight (v, sees) = let (number, row, has, numbered, words) = seen_row sights distinct most p state rows are sight v sees in (number, row, has, numbered)

  -- a word that was shown is that of a row
  word_was : (before : Option State) (rows : List Row) → AreRowsOf sights most p before rows → (number : ℕ) (sight : Sight) (part word : ℕ) → slice_get sights number ≡ Some sight → Showed p most before sight part word
      → (row : Row) × HasRow rows number row × (slice_get row.words.items part ≡ Some word)
  word_was None rows none number sight part word numbered showed = absurd showed
  word_was (Some state) rows are number sight part word numbered (v, sees, less, is) =
      let (row, has, words) = numbered_row sights distinct most p state rows are number sight v numbered sees in
      (row, has, ap (λ xs. slice_get xs part) words ∙ taken_get most (words_at sight.depth state v) part word less is)

  module _ (before : Option State) (now : State) (old new : List Row) (olds : AreRowsOf sights most p before old) (news : AreRows sights most now new (all_seen p now)) where
    -- what is new in the rows is a difference
    new_differs : (it : Change) → IsNew old new it → (difference : Difference) × (told sights it ≡ Some difference) × Differs p most before now difference
    new_differs (change.Word number part word) ((row, has, is), none) =
        let (sight, numbered, seen, shows) = row_seen sights distinct most p now new news number row has in (
          HasWord sight part word,
          ap (option_map (λ sight. HasWord sight part word)) numbered,
          (shows part word is, λ showed. let (was, was_has, was_is) = word_was before old olds number sight part word numbered showed in none was was_has was_is),
        )
    new_differs (change.Gone number) ((row, has), none) =
        let (sight, numbered, seen, shows) = row_was before old olds number row has in (
          IsGone sight,
          ap (option_map IsGone) numbered,
          (seen, λ still. let (own, own_has, words) = numbered_row sights distinct most p now new news number sight still.0 numbered still.1 in none own own_has),
        )

    -- and a difference is new in the rows
    differs_new : (difference : Difference) → Differs p most before now difference → (it : Change) × (told sights it ≡ Some difference) × IsNew old new it
    differs_new (HasWord sight part word) ((v, sees, less, is), other) =
        let (number, row, has, numbered, words) = seen_row sights distinct most p now new news sight v sees in (
          change.Word number part word,
          ap (option_map (λ sight. HasWord sight part word)) numbered,
          (
            (row, has, ap (λ xs. slice_get xs part) words ∙ taken_get most (words_at sight.depth now v) part word less is),
            λ was was_has was_is.
                let (one, one_numbered, seen, shows) = row_was before old olds number was was_has in
                let same : one ≡ sight = cc (one_numbered, numbered) in
                other (subst (λ sight. Showed p most before sight part word) same (shows part word was_is)),
          ),
        )
    differs_new (IsGone sight) (seen, gone) =
        let (number, row, has, numbered) = was_number before old olds sight seen in (
          change.Gone number,
          ap (option_map IsGone) numbered,
          (
            (row, has),
            λ still still_has.
                let (one, one_numbered, one_seen, shows) = row_seen sights distinct most p now new news number still still_has in
                let same : one ≡ sight = cc (one_numbered, numbered) in
                gone (subst (IsSeen p now) same one_seen),
          ),
        )

    -- the changes that are new in the rows tell what differs
    pub all_told : (changes : List Change) → All (IsNew old new) changes → ((it : Change) → IsNew old new it → Contains changes it) → TellDifferences p most before now sights changes
    all_told changes sound complete = record {
      sound = All-weaker (IsNew old new) (λ it. (difference : Difference) × (told sights it ≡ Some difference) × Differs p most before now difference) new_differs changes sound;
      complete = λ difference differs. let (it, is, new_it) = differs_new difference differs in told_among sights changes it difference is (complete it new_it);
    }

-- the rows of a moment stay those where variables get numbers
pub rows_of_stay : (most : ℕ) (p : Program) (before : Option State) (old new : List Sight) → Grows old new → (rows : List Row) → AreRowsOf old most p before rows → AreRowsOf new most p before rows
rows_of_stay most p None old new grows rows none = none
rows_of_stay most p (Some state) old new grows rows are = rows_stay most state old new grows rows (all_seen p state) are
