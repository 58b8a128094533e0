-- The rows of changes, one change after another.
use Rattle.std.proofs.Common.{◌≡◌, ◌==◌, ◌&&◌, ◌<◌, ℕ, ◌+◌, Bool, true, false, List, [], ◌∷◌, ◌++◌, map, length, take, get_or, Option, Some, None, refl, ap, sym, subst, ◌∙◌, append-nil, append_assoc, codes, decimal, if◌then◌else◌, arith}
use Rattle.std.proofs.lemmas.Bool.Decides.{nat_tests}
use Rattle.std.proofs.lemmas.List.{take_more}
use Rattle.std.proofs.KnownBytes.{Appends-trans}
use Rattle.std.specs.List.{concat, flat_map}
use Rattle.std.specs.Io.KnownBytes.{Appends}
use Rattle.gang_model.specs.Texts.Text.{Bytes}
use Rattle.json_texts.specs.Json.{list_text, rest_text}
use Rattle.run_page.specs.declared.variables.Variable.{Variable}
use Rattle.run_page.specs.declared.views.Change.{Change}
use Rattle.run_page.specs.declared.views.Change.TheVariants as change
use Rattle.run_page.specs.ChangeTexts.{added_text, end_mark, goes_on}
use Rattle.run_page.specs.RecordText.{ChangeRow, Gone, Words, change_rows, changes_text, row_before, row_text, value_text}

same_number : (v w : ℕ) (b : Bool) → ((v == w) && b) ≡ true → v ≡ w
same_number v w b is = grind (arith, nat_tests)

-- the row that begins with a change, and goes on with more words
abbrev begun : Change → (more : List ℕ) → ChangeRow
begun (change.Gone v) more = Gone v
begun (change.Word v part word) more = Words v part (word ∷ more)

-- a change goes on with the row of another one
abbrev follows : Change → Change → Bool
follows before (change.Gone v) = false
follows before (change.Word v part word) = goes_on (Some before) v part

-- the last of changes behind one, if there was one
abbrev pub last_of : Option Change → List Change → Option Change
last_of before [] = before
last_of before (it ∷ changes) = last_of (Some it) changes

last_more : (before : Option Change) (changes : List Change) (it : Change) → last_of before (changes ++ it ∷ []) ≡ Some it
last_more before [] it = refl
last_more before (first ∷ changes) it = last_more (Some first) changes it

pub last_step : (changes : List Change) (i : ℕ) (d : Change) → i < length changes → last_of None (take (i + 1) changes) ≡ Some (get_or changes i d)
last_step changes i d inside = ap (last_of None) (take_more changes i d inside) ∙ last_more None (take i changes) (get_or changes i d)

module _ (variables : List Variable) where
  -- what changes add behind one, if there was one
  abbrev pub open_text : Option Change → List Change → Bytes
  open_text before [] = []
  open_text before (it ∷ changes) = added_text variables before it ++ open_text (Some it) changes

  open_more : (before : Option Change) (changes : List Change) (it : Change) → open_text before (changes ++ it ∷ []) ≡ open_text before changes ++ added_text variables (last_of before changes) it
  open_more before [] it = append-nil (added_text variables before it)
  open_more before (first ∷ changes) it =
      ap (λ t. added_text variables before first ++ t) (open_more (Some first) changes it)
      ∙ sym (append_assoc (added_text variables before first) (open_text (Some first) changes) (added_text variables (last_of (Some first) changes) it))

  -- one change more was written
  pub open_step : (changes : List Change) (i : ℕ) (d : Change) (before : Option Change) (a b c : Option Bytes) → i < length changes → before ≡ last_of None (take i changes)
      → Appends a b (open_text None (take i changes)) → Appends b c (added_text variables before (get_or changes i d)) → Appends a c (open_text None (take (i + 1) changes))
  open_step changes i d before a b c inside same first one =
      let there = subst (λ it. Appends b c (added_text variables it (get_or changes i d))) same one in
      subst (Appends a c) (sym (ap (open_text None) (take_more changes i d inside) ∙ open_more None (take i changes) (get_or changes i d)))
      (Appends-trans a b c (open_text None (take i changes)) (added_text variables (last_of None (take i changes)) (get_or changes i d)) first there)

  -- ---- the text behind a change

  -- what each one behind it adds, and the end
  abbrev tail_text : Change → List Change → Bytes
  tail_text before [] = codes "]]"
  tail_text before (it ∷ changes) = added_text variables (Some before) it ++ tail_text it changes

  tail_is : (before : Change) (changes : List Change) → tail_text before changes ≡ open_text (Some before) changes ++ end_mark (last_of (Some before) changes)
  tail_is before [] = last_some before
    where
      last_some : (before : Change) → codes "]]" ≡ end_mark (Some before)
      last_some before = refl
  tail_is before (it ∷ changes) =
      ap (λ t. added_text variables (Some before) it ++ t) (tail_is it changes) ∙ sym (append_assoc (added_text variables (Some before) it) (open_text (Some it) changes) (end_mark (last_of (Some it) changes)))

  -- a change at the begin of a row
  abbrev first_text : Change → Bytes
  first_text (change.Gone v) = decimal v
  first_text (change.Word v part word) = decimal v ++ (codes "," ++ (decimal part ++ (codes "," ++ value_text variables v word)))

  -- the other words of its row, and the other rows
  abbrev behind_text : Change → (more : List ℕ) → List ChangeRow → Bytes
  behind_text (change.Gone v) more rows = codes "]" ++ rest_text (map (row_text variables) rows)
  behind_text (change.Word v part word) more rows = rest_text (map (value_text variables v) more) ++ rest_text (map (row_text variables) rows)

  -- rows that begin with a change
  rows_text : (it : Change) (more : List ℕ) (rows : List ChangeRow) → row_text variables (begun it more) ++ rest_text (map (row_text variables) rows) ≡ codes "[" ++ (first_text it ++ behind_text it more rows)
  rows_text (change.Gone v) more rows = ap (λ t. codes "[" ++ t) (append_assoc (decimal v) (codes "]") (rest_text (map (row_text variables) rows)))
  rows_text (change.Word v part word) more rows = simp append_assoc refl

  -- what a change adds that begins a row
  opens_text : (before it : Change) (rest : Bytes) → follows before it ≡ false → added_text variables (Some before) it ++ rest ≡ codes "],[" ++ (first_text it ++ rest)
  opens_text before (change.Gone v) rest none = ap (λ t. codes "],[" ++ (t ++ rest)) (append-nil (decimal v))
  opens_text before (change.Word v part word) rest none =
      ap (λ (b : Bool). (if b then concat (codes "," ∷ value_text variables v word ∷ []) else concat (codes "],[" ∷ decimal v ∷ codes "," ∷ decimal part ∷ codes "," ∷ value_text variables v word ∷ [])) ++ rest) none
      ∙ ap (λ t. codes "],[" ++ ((decimal v ++ (codes "," ++ (decimal part ++ (codes "," ++ t)))) ++ rest)) (append-nil (value_text variables v word))

  starts_text : (it : Change) (rest : Bytes) → added_text variables None it ++ rest ≡ codes "[" ++ (first_text it ++ rest)
  starts_text (change.Gone v) rest = ap (λ t. codes "[" ++ (t ++ rest)) (append-nil (decimal v))
  starts_text (change.Word v part word) rest = ap (λ t. codes "[" ++ ((decimal v ++ (codes "," ++ (decimal part ++ (codes "," ++ t)))) ++ rest)) (append-nil (value_text variables v word))

  -- the text of changes of which the first one begins a row
  own : (it next : Change) (changes : List Change) (more : List ℕ) (rows : List ChangeRow) → behind_text next more rows ≡ tail_text next changes → follows it next ≡ false
      → codes "]" ++ rest_text (map (row_text variables) (begun next more ∷ rows)) ≡ tail_text it (next ∷ changes)
  own it next changes more rows text none =
      ap (λ t. codes "]," ++ t) (rows_text next more rows) ∙ ap (λ t. codes "],[" ++ (first_text next ++ t)) text ∙ sym (opens_text it next (tail_text next changes) none)

  -- the text of changes of which the first one goes on with a row
  joins : (v part word w next y : ℕ) (changes : List Change) (more : List ℕ) (rows : List ChangeRow) → behind_text (change.Word w next y) more rows ≡ tail_text (change.Word w next y) changes → ((v == w) && (part + 1 == next)) ≡ true
      → behind_text (change.Word v part word) (y ∷ more) rows ≡ tail_text (change.Word v part word) (change.Word w next y ∷ changes)
  joins v part word w next y changes more rows text same =
      ap (λ u. (codes "," ++ (value_text variables u y ++ rest_text (map (value_text variables u) more))) ++ rest_text (map (row_text variables) rows)) (same_number v w (part + 1 == next) same)
      ∙ ap (λ t. codes "," ++ t) (append_assoc (value_text variables w y) (rest_text (map (value_text variables w) more)) (rest_text (map (row_text variables) rows)))
      ∙ ap (λ t. codes "," ++ (value_text variables w y ++ t)) text
      ∙ sym (ap (λ t. codes "," ++ (t ++ tail_text (change.Word w next y) changes)) (append-nil (value_text variables w y)))
      ∙ sym (ap (λ (b : Bool). (if b then concat (codes "," ∷ value_text variables w y ∷ []) else concat (codes "],[" ∷ decimal w ∷ codes "," ∷ decimal next ∷ codes "," ∷ value_text variables w y ∷ [])) ++ tail_text (change.Word w next y) changes) same)

  -- the rows of changes begin with the first of them, and the text behind it is that of the others
  abbrev Behind : Change → List Change → Type 0
  Behind it changes = (more : List ℕ) × (rows : List ChangeRow) × (change_rows (it ∷ changes) ≡ begun it more ∷ rows) × (behind_text it more rows ≡ tail_text it changes)

  one : (it next : Change) (changes : List Change) → Behind next changes → Behind it (next ∷ changes)
  one (change.Gone v) next changes (more, rows, shape, text) = ([], begun next more ∷ rows, ap (row_before (change.Gone v)) shape, own (change.Gone v) next changes more rows text (none next))
    where
      none : (next : Change) → follows (change.Gone v) next ≡ false
      none (change.Gone w) = refl
      none (change.Word w part word) = refl
  one (change.Word v part word) (change.Gone w) changes (more, rows, shape, text) =
      ([], Gone w ∷ rows, ap (row_before (change.Word v part word)) shape, own (change.Word v part word) (change.Gone w) changes more rows text refl)
  one (change.Word v part word) (change.Word w next y) changes (more, rows, shape, text) = test ((v == w) && (part + 1 == next)) refl
    where
      before : (b : Bool) → ((v == w) && (part + 1 == next)) ≡ b
          → change_rows (change.Word v part word ∷ change.Word w next y ∷ changes) ≡ (if b then (Words v part (word ∷ y ∷ more) ∷ rows) else (Words v part (word ∷ []) ∷ Words w next (y ∷ more) ∷ rows))
      before b is = ap (row_before (change.Word v part word)) shape ∙ ap (λ (b : Bool). if b then (Words v part (word ∷ y ∷ more) ∷ rows) else (Words v part (word ∷ []) ∷ Words w next (y ∷ more) ∷ rows)) is

      test : (b : Bool) → ((v == w) && (part + 1 == next)) ≡ b → Behind (change.Word v part word) (change.Word w next y ∷ changes)
      test true same = (y ∷ more, rows, before true same, joins v part word w next y changes more rows text same)
      test false other = ([], Words w next (y ∷ more) ∷ rows, before false other, own (change.Word v part word) (change.Word w next y) changes more rows text other)

  behind : (it : Change) (changes : List Change) → Behind it changes
  behind (change.Gone v) [] = ([], [], refl, refl)
  behind (change.Word v part word) [] = ([], [], refl, refl)
  behind it (next ∷ changes) = one it next changes (behind next changes)

  -- the text of changes: what each of them adds, and the end
  pub changes_are : (changes : List Change) → changes_text variables changes ≡ codes "[" ++ (open_text None changes ++ end_mark (last_of None changes))
  changes_are [] = refl
  changes_are (it ∷ changes) = go (behind it changes)
    where
      go : Behind it changes → changes_text variables (it ∷ changes) ≡ codes "[" ++ ((added_text variables None it ++ open_text (Some it) changes) ++ end_mark (last_of (Some it) changes))
      go (more, rows, shape, text) =
          ap (λ rows. list_text (map (row_text variables) rows)) shape
          ∙ ap (λ t. codes "[" ++ t) (rows_text it more rows)
          ∙ ap (λ t. codes "[[" ++ (first_text it ++ t)) (text ∙ tail_is it changes)
          ∙ ap (λ t. codes "[" ++ t) (sym (starts_text it (open_text (Some it) changes ++ end_mark (last_of (Some it) changes))))
          ∙ ap (λ t. codes "[" ++ t) (sym (append_assoc (added_text variables None it) (open_text (Some it) changes) (end_mark (last_of (Some it) changes))))

-- ---- from rows back to changes

abbrev word_changes : (variable part : ℕ) → List ℕ → List Change
word_changes v part [] = []
word_changes v part (word ∷ words) = change.Word v part word ∷ word_changes v (part + 1) words

-- the changes that a row tells
abbrev pub row_changes : ChangeRow → List Change
row_changes (Words v first words) = word_changes v first words
row_changes (Gone v) = change.Gone v ∷ []

next_part : (same : Bool) (part first : ℕ) → (same && (part + 1 == first)) ≡ true → part + 1 ≡ first
next_part same part first is = grind (arith, nat_tests)

rows_before : (it : Change) (rows : List ChangeRow) → flat_map row_changes (row_before it rows) ≡ it ∷ flat_map row_changes rows
rows_before (change.Gone v) rows = refl
rows_before (change.Word v part word) [] = refl
rows_before (change.Word v part word) (Gone w ∷ rows) = refl
rows_before (change.Word v part word) (Words w first words ∷ rows) = test ((v == w) && (part + 1 == first)) refl
  where
    chosen : (b : Bool) → ((v == w) && (part + 1 == first)) ≡ b
        → flat_map row_changes (row_before (change.Word v part word) (Words w first words ∷ rows))
        ≡ flat_map row_changes (if b then (Words v part (word ∷ words) ∷ rows) else (Words v part (word ∷ []) ∷ Words w first words ∷ rows))
    chosen b is = ap (λ (b : Bool). flat_map row_changes (if b then (Words v part (word ∷ words) ∷ rows) else (Words v part (word ∷ []) ∷ Words w first words ∷ rows))) is

    test : (b : Bool) → ((v == w) && (part + 1 == first)) ≡ b
        → flat_map row_changes (row_before (change.Word v part word) (Words w first words ∷ rows)) ≡ change.Word v part word ∷ (word_changes w first words ++ flat_map row_changes rows)
    test true is =
        chosen true is
        ∙ ap (λ u. change.Word v part word ∷ (word_changes u (part + 1) words ++ flat_map row_changes rows)) (same_number v w (part + 1 == first) is)
        ∙ ap (λ n. change.Word v part word ∷ (word_changes w n words ++ flat_map row_changes rows)) (next_part (v == w) part first is)
    test false is = chosen false is

-- rows tell all changes, in order, and nothing else
pub rows_tell : (changes : List Change) → flat_map row_changes (change_rows changes) ≡ changes
rows_tell [] = refl
rows_tell (it ∷ changes) = rows_before it (change_rows changes) ∙ ap (λ rest. it ∷ rest) (rows_tell changes)
