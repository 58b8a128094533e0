-- Words and rows that are new.
use Rattle.std.proofs.Common.{inl, inr, ◌≡◌, refl, sym, ap, ◌∙◌, ℕ, List, [], ◌∷◌, ◌++◌, length, Bool, true, false, Option, Some, None, arith}
use Rattle.std.specs.Prelude.{slice_get, ◌⊎◌, is_some, not, IfOk, Result, Ok, Err}
use Rattle.std.specs.Borrow.{Bor}
use Rattle.std.proofs.lemmas.List.Elements.{Contains-append_left, Contains-push, Contains-push_cases}
use Rattle.run_page.specs.declared.views.Change.{Change}
use Rattle.run_page.specs.declared.views.Change.TheVariants as change
use Rattle.run_page.specs.declared.views.Row.{Row}
use Rattle.run_page.specs.Rows.{Adds, AreConsistent, FindsWords, HasRow, IsGoneBetween, IsNew, IsNewIn, IsNewWord}
use Rattle.run_page.proofs.Adding.{adds_join, adds_none, adds_push, adds_same}
use Rattle.run_page.proofs.Places.{get_before, get_cases, get_last}

-- ---- words

module _ (number : ℕ) (old : List ℕ) where
  -- nothing is new of no words
  pub no_words : (changes : List Change) → Adds (IsNewWord number old []) changes changes
  no_words changes = adds_none (IsNewWord number old []) changes (λ it. none it)
    where
      none : (it : Change) → IsNewWord number old [] it → ⊥
      none (change.Word other part word) new = absurd (cc (new.1))
      none (change.Gone other) new = new

  more_words : (done : List ℕ) (w : ℕ) (it : Change) → IsNewWord number old done it → IsNewWord number old (done ++ w ∷ []) it
  more_words done w (change.Word other part word) new = (new.0, get_before done (w ∷ []) part word new.1, new.2)
  more_words done w (change.Gone other) new = new

  -- a word that is new
  pub new_word : (done : List ℕ) (at w : ℕ) (first middle last : List Change) → length done ≡ at → (slice_get old at ≡ Some w → ⊥) → last ≡ middle ++ change.Word number at w ∷ []
      → Adds (IsNewWord number old done) first middle → Adds (IsNewWord number old (done ++ w ∷ [])) first last
  new_word done at w first middle last long other more adds =
      adds_push (IsNewWord number old done) (IsNewWord number old (done ++ w ∷ [])) first middle last (change.Word number at w) more
      (refl, ap (slice_get (done ++ w ∷ [])) (sym long) ∙ get_last done w, other) (more_words done w) cases adds
    where
      cases : (it : Change) → IsNewWord number old (done ++ w ∷ []) it → IsNewWord number old done it ⊎ (change.Word number at w ≡ it)
      cases (change.Word n part word) new = elim (get_cases done w part word new.1) [
        | inl before ↦ inl (new.0, before, new.2)
        | inr here ↦ inr (cc (new.0, here.0, here.1, long))
      ]
      cases (change.Gone n) new = absurd new

  -- a word that is as it was
  pub same_word : (done : List ℕ) (at w : ℕ) (first last : List Change) → length done ≡ at → slice_get old at ≡ Some w → Adds (IsNewWord number old done) first last → Adds (IsNewWord number old (done ++ w ∷ [])) first last
  same_word done at w first last long same adds = adds_same (IsNewWord number old done) (IsNewWord number old (done ++ w ∷ [])) first last (more_words done w) back adds
    where
      back : (it : Change) → IsNewWord number old (done ++ w ∷ []) it → IsNewWord number old done it
      back (change.Word n part word) new = elim (get_cases done w part word new.1) [
        | inl before ↦ (new.0, before, new.2)
        | inr here ↦ absurd (new.2 (ap (slice_get old) (here.0 ∙ long) ∙ same ∙ ap Some here.1))
      ]
      back (change.Gone n) new = new

-- ---- variables that are gone

module _ (now : List Row) where
  pub none_gone : (changes : List Change) → Adds (IsGoneBetween [] now) changes changes
  none_gone changes = adds_none (IsGoneBetween [] now) changes (λ it. none it)
    where
      none : (it : Change) → IsGoneBetween [] now it → ⊥
      none (change.Word n part word) gone = gone
      none (change.Gone n) ((row, ((k, within, is), same)), other) = absurd (omega (arith, within))

  more_gone : (done : List Row) (row : Row) (it : Change) → IsGoneBetween done now it → IsGoneBetween (done ++ row ∷ []) now it
  more_gone done row (change.Word n part word) gone = gone
  more_gone done row (change.Gone n) ((old, (there, same)), none) = ((old, (Contains-append_left done (row ∷ []) old there, same)), none)

  gone_cases : (done : List Row) (row : Row) (it : Change) → IsGoneBetween (done ++ row ∷ []) now it
      → IsGoneBetween done now it ⊎ ((change.Gone row.variable ≡ it) × ((other : Row) → HasRow now row.variable other → ⊥))
  gone_cases done row (change.Word n part word) gone = absurd gone
  gone_cases done row (change.Gone n) ((old, (there, same)), none) = elim (Contains-push_cases done row old there) [
    | inl before ↦ inl ((old, (before, same)), none)
    | inr here ↦
        let number : row.variable ≡ n = ap (λ r. r.variable) here ∙ same in
        inr (ap change.Gone number, λ other has. none other (has.0, has.1 ∙ number))
  ]

  -- a variable that is not there any more
  pub one_gone : (done : List Row) (row : Row) (first middle last : List Change) → ((other : Row) → HasRow now row.variable other → ⊥) → last ≡ middle ++ change.Gone row.variable ∷ []
      → Adds (IsGoneBetween done now) first middle → Adds (IsGoneBetween (done ++ row ∷ []) now) first last
  one_gone done row first middle last none more adds =
      adds_push (IsGoneBetween done now) (IsGoneBetween (done ++ row ∷ []) now) first middle last (change.Gone row.variable) more ((row, (Contains-push done row, refl)), none) (more_gone done row) cases adds
    where
      cases : (it : Change) → IsGoneBetween (done ++ row ∷ []) now it → IsGoneBetween done now it ⊎ (change.Gone row.variable ≡ it)
      cases it gone = elim (gone_cases done row it gone) [ inl before ↦ inl before | inr here ↦ inr here.0 ]

  -- a variable that is there still
  pub one_there : (done : List Row) (row other : Row) (first last : List Change) → HasRow now row.variable other → Adds (IsGoneBetween done now) first last → Adds (IsGoneBetween (done ++ row ∷ []) now) first last
  one_there done row other first last has adds = adds_same (IsGoneBetween done now) (IsGoneBetween (done ++ row ∷ []) now) first last (more_gone done row) back adds
    where
      back : (it : Change) → IsGoneBetween (done ++ row ∷ []) now it → IsGoneBetween done now it
      back it gone = elim (gone_cases done row it gone) [ inl before ↦ before | inr here ↦ absurd (here.1 other has) ]

-- what was found where none, or some, was
pub found_none : (number : ℕ) (rows : List Row) (found : Option (Bor (List ℕ))) (b : Bool) → is_some found ≡ not b → b ≡ true → FindsWords rows number found → (row : Row) → HasRow rows number row → ⊥
found_none number rows None b is none finds = finds
found_none number rows (Some words) b is none finds = absurd (cc (is, ap not none))

pub found_some : (number : ℕ) (rows : List Row) (found : Option (Bor (List ℕ))) (b : Bool) → is_some found ≡ not b → b ≡ false → FindsWords rows number found → (row : Row) × HasRow rows number row
found_some number rows None b is some finds = absurd (cc (is, ap not some))
found_some number rows (Some words) b is some finds = (finds.0, finds.1)

-- ---- words of rows

-- the words that were found of a variable; none where it has no row
abbrev pub words_found : Option (Bor (List ℕ)) → List ℕ
words_found None = []
words_found (Some words) = words.now

module _ (before : List Row) where
  pub none_new : (changes : List Change) → Adds (IsNewIn before []) changes changes
  none_new changes = adds_none (IsNewIn before []) changes (λ it. none it)
    where
      none : (it : Change) → IsNewIn before [] it → ⊥
      none (change.Word n part word) ((row, ((k, within, is), same), has), other) = absurd (omega (arith, within))
      none (change.Gone n) new = new

  more_new : (done : List Row) (row : Row) (it : Change) → IsNewIn before done it → IsNewIn before (done ++ row ∷ []) it
  more_new done row (change.Word n part word) ((new, (there, same), has), other) = ((new, (Contains-append_left done (row ∷ []) new there, same), has), other)
  more_new done row (change.Gone n) new = new

  -- a word is not in the rows before where it is not among the words that were found of the variable
  none_before : (consistent : AreConsistent before) (number : ℕ) (found : Option (Bor (List ℕ))) → FindsWords before number found → (part word : ℕ) → (slice_get (words_found found) part ≡ Some word → ⊥)
      → (row : Row) → HasRow before number row → slice_get row.words.items part ≡ Some word → ⊥
  none_before consistent number None finds part word none row has is = finds row has
  none_before consistent number (Some words) (own, owns, are) part word none row has is =
      none (ap (λ xs. slice_get xs part) (are ∙ consistent number own row owns has) ∙ is)

  -- and is not among them where it is not in the rows
  none_found : (number : ℕ) (found : Option (Bor (List ℕ))) → FindsWords before number found → (part word : ℕ) → ((row : Row) → HasRow before number row → slice_get row.words.items part ≡ Some word → ⊥)
      → slice_get (words_found found) part ≡ Some word → ⊥
  none_found number None finds part word none is = absurd (cc (is))
  none_found number (Some words) (own, owns, are) part word none is = none own owns (ap (λ xs. slice_get xs part) (sym are) ∙ is)

  -- with the words of one row more
  pub row_new : (consistent : AreConsistent before) (done : List Row) (row : Row) (found : Option (Bor (List ℕ))) (first middle last : List Change) → FindsWords before row.variable found
      → Adds (IsNewIn before done) first middle → Adds (IsNewWord row.variable (words_found found) row.words.items) middle last → Adds (IsNewIn before (done ++ row ∷ [])) first last
  row_new consistent done row found first middle last finds a b =
      adds_join (IsNewIn before done) (IsNewWord row.variable (words_found found) row.words.items) (IsNewIn before (done ++ row ∷ [])) first middle last (more_new done row) own cases a b
    where
      own : (it : Change) → IsNewWord row.variable (words_found found) row.words.items it → IsNewIn before (done ++ row ∷ []) it
      own (change.Word n part word) (same, has, other) = (
        (row, (Contains-push done row, sym same), has),
        λ old there. none_before consistent row.variable found finds part word other old (there.0, there.1 ∙ same),
      )
      own (change.Gone n) new = absurd new

      cases : (it : Change) → IsNewIn before (done ++ row ∷ []) it → IsNewIn before done it ⊎ IsNewWord row.variable (words_found found) row.words.items it
      cases (change.Word n part word) ((new, (there, same), has), other) = elim (Contains-push_cases done row new there) [
        | inl earlier ↦ inl ((new, (earlier, same), has), other)
        | inr here ↦
            let number : row.variable ≡ n = ap (λ r. r.variable) here ∙ same in
            inr (sym number, ap (λ r. slice_get r.words.items part) here ∙ has, none_found row.variable found finds part word (λ old old_has. other old (old_has.0, old_has.1 ∙ number)))
      ]
      cases (change.Gone n) new = absurd new

-- what is gone, and what is new
pub all_new : (before now : List Row) (first middle last : List Change) → Adds (IsGoneBetween before now) first middle → Adds (IsNewIn before now) middle last → Adds (IsNew before now) first last
all_new before now first middle last a b = adds_join (IsGoneBetween before now) (IsNewIn before now) (IsNew before now) first middle last gone new cases a b
  where
    gone : (it : Change) → IsGoneBetween before now it → IsNew before now it
    gone (change.Word n part word) is = absurd is
    gone (change.Gone n) is = is

    new : (it : Change) → IsNewIn before now it → IsNew before now it
    new (change.Word n part word) is = is
    new (change.Gone n) is = absurd is

    cases : (it : Change) → IsNew before now it → IsGoneBetween before now it ⊎ IsNewIn before now it
    cases (change.Word n part word) is = inr is
    cases (change.Gone n) is = inl is

-- what holds of a call that found its memory
pub ok_more : {X E P Q : Type 0} (r : Result X E) → (P → Q) → IfOk r (λ _. P) → IfOk r (λ _. Q)
ok_more (Ok x) more p = more p
ok_more (Err e) more p = p
