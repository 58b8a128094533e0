-- A row of an input is given at the beginning of a run: what its variable begins with stands in the regions.
use Rattle.std.proofs.Common.{◌≡◌, ◌≢◌, refl, sym, ap, ◌∙◌, subst, ℕ, suc, ◌+◌, ◌<◌, ◌≤◌, ◌⊎◌, inl, inr, Bool, true, false, true≢false, List, [], ◌∷◌, length, Some, arith}
use Rattle.std.specs.Prelude.{◌||◌, take, slice_get, if◌then◌else◌}
use Rattle.std.proofs.lemmas.Bool.{cases_eq, cases_lt, ne_eqb}
use Rattle.std.proofs.lemmas.Option.{same_Some}
use Rattle.gang_types.specs.declared.types.Rate.TheVariants.{Uniform}
use Rattle.gang_types.specs.declared.places.VarId.{VarId}
use Rattle.gang_types.specs.declared.places.VarId.TheVariants.{File, Local}
use Rattle.gang_model.specs.Debugger.Events.{Given, Row, covered, with_row}
use Rattle.gang_model.specs.Running.State.{View, view_in, with_words, words_of}
use Rattle.machine_states.specs.ArrayParts.{AreMemory, array_region, view_at, view_kept, view_of_words}
use Rattle.machine_states.specs.Declared.{has_entry}
use Rattle.machine_states.specs.GivenRows.{GivesParameter, GivesRow, HasNoArray, HasNoArrayRow, ShowsArray, ShowsGiven, whole_array}
use Rattle.machine_states.specs.Regions.{OfEntry, OfFile, OfLocal, Region, Regions, with_region}
use Rattle.machine_states.specs.Shows.{IsScalarIn, ShowsView}
use Rattle.machine_states.specs.Variables.{Variables, is_array_of, own_of, rate_of}
use Rattle.machine_states.proofs.ArrayViews.{view_same}
use Rattle.machine_states.proofs.ChangedRegions.{HaveSameLengths, file_away, lengths_all, local_away, region_away, region_here}
use Rattle.machine_states.proofs.KeptViews.{kept_whole}
use Rattle.machine_states.proofs.StoreWords.{another, itself, words_kept, words_set}

-- ---- words that cover others

pub covered_long : (words old : List ℕ) → length words ≤ length old → length (covered words old) ≡ length old
covered_long [] old le = refl
covered_long (x ∷ words) [] le = absurd (omega (arith, le))
covered_long (x ∷ words) (y ∷ old) le = let more = covered_long words old (omega (arith, le)) in omega (arith, more)

-- as many words leave nothing of the old ones
pub covered_whole : (words old : List ℕ) → length old ≡ length words → covered words old ≡ words
covered_whole [] [] same = refl
covered_whole [] (y ∷ old) same = absurd (omega (arith, same))
covered_whole (x ∷ words) [] same = absurd (omega (arith, same))
covered_whole (x ∷ words) (y ∷ old) same = ap (λ ws. x ∷ ws) (covered_whole words old (omega (arith, same)))

one_first : (words old : List ℕ) → length words ≡ 1 → words ≡ take 1 (covered words old)
one_first [] old one = absurd (omega (arith, one))
one_first (x ∷ []) old one = refl
one_first (x ∷ y ∷ words) old one = absurd (omega (arith, one))

-- ---- one row

-- what is asked of the row of a parameter: it is an array or not as the parameter is, an array has as many words as the row, and a
-- scalar is uniform and has one
pub record IsParameterRow (variables : Variables) (entry : ℕ) (regions : Regions) (n : ℕ) (row : Row) : Type 0 where
  pub is_array : is_array_of (slice_get (own_of variables entry) n) ≡ row.variable.is_array
  pub long : row.variable.is_array ≡ true → length (regions (OfEntry n)) ≡ length row.words
  pub uniform : row.variable.is_array ≡ false → rate_of (slice_get (own_of variables entry) n) ≡ Uniform
  pub one : row.variable.is_array ≡ false → length row.words ≡ 1

module _ (variables : Variables) (w entry : ℕ) (wide : 0 < w) (rows : List Row) (count : ℕ) (old new : Regions) (given : Given) (shown : ShowsGiven variables w entry old rows count given)
    (row : Row) (is_row : slice_get rows count ≡ Some row) where
  abbrev Own : ℕ → Bool
  Own k = is_array_of (slice_get (own_of variables entry) k)

  -- the row is none of an array parameter of this number
  no_row_more : (k : ℕ) → HasNoArrayRow rows count k → (row.variable.id ≡ Local k → row.variable.is_array ≡ false) → HasNoArrayRow rows (suc count) k
  no_row_more k none this i other below e id = elim (cases_lt i count) [
    | inl before ↦ none i other before e id
    | inr past ↦
        let last : count ≡ i = omega (arith, below, past) in
        let same : row ≡ other = same_Some row other (sym is_row ∙ ap (slice_get rows) last ∙ e) in
        ap (λ (r : Row). r.variable.is_array) (sym same) ∙ this (ap (λ (r : Row). r.variable.id) same ∙ id)
  ]

  scalar_same : (k : ℕ) (words : List ℕ) → new (OfLocal 0 k) ≡ old (OfLocal 0 k)
      → (Own k ≡ false) × IsScalarIn w (rate_of (slice_get (own_of variables entry) k)) words (old (OfLocal 0 k))
      → (Own k ≡ false) × IsScalarIn w (rate_of (slice_get (own_of variables entry) k)) words (new (OfLocal 0 k))
  scalar_same k words same h = (h.0, subst (IsScalarIn w (rate_of (slice_get (own_of variables entry) k)) words) (sym same) h.1)

  -- ---- of a variable of the file

  module _ (n : ℕ) (id : row.variable.id ≡ File n) (fits : length row.words ≤ length (old (OfFile n)))
      (gives : (r : Region) → new r ≡ with_region (OfFile n) (covered row.words (old (OfFile n))) old r) where
    abbrev file_words : List ℕ
    file_words = covered row.words (words_of given.memory (File n))

    file_lengths : HaveSameLengths old new
    file_lengths a =
        ap length (gives (array_region a))
        ∙ lengths_all (OfFile n) (covered row.words (old (OfFile n))) old (covered_long row.words (old (OfFile n)) fits) (array_region a)

    file_at : (k : ℕ) → words_of (with_words given.memory (File n) file_words) (File k) ≡ new (OfFile k)
    file_at k = elim (cases_eq k n) [
      | inl same ↦
          ap (λ j. words_of (with_words given.memory (File n) file_words) (File j)) same ∙ words_set given.memory (File n) file_words
          ∙ ap (covered row.words) (shown.file n) ∙ sym (region_here (covered row.words (old (OfFile n))) old (OfFile n)) ∙ sym (gives (OfFile n))
          ∙ ap (λ j. new (OfFile j)) (sym same)
      | inr other ↦
          words_kept (File n) (File k) file_words (λ e. other (cc e)) given.memory ∙ shown.file k
          ∙ sym (file_away (covered row.words (old (OfFile n))) old n k (λ e. other (sym e))) ∙ sym (gives (OfFile k))
    ]

    file_arrays : (k : ℕ) → ShowsArray variables entry new (with_row (File n) row given) k ⊎ HasNoArray rows (suc count) (with_row (File n) row given) k
    file_arrays k = elim (shown.arrays k) [
      | inl s ↦ inl (record {
        is_array = s.is_array;
        words = words_kept (File n) (Local k) file_words (λ e. cc e) given.memory ∙ s.words ∙ sym (gives (OfEntry k));
        view = s.view ∙ sym (view_same old new file_lengths 0 k (gives (OfLocal 0 k)));
      })
      | inr s ↦ inr (record {
        no_row = no_row_more k s.no_row (λ e. absurd (let both : File n ≡ Local k = sym id ∙ e in cc both));
        words = words_kept (File n) (Local k) file_words (λ e. cc e) given.memory ∙ s.words;
      })
    ]

    file_given : ShowsGiven variables w entry new rows (suc count) (with_row (File n) row given)
    file_given = record {
      file = file_at;
      arrays = file_arrays;
      scalars = λ k h. scalar_same k (words_of given.passed.vars (Local k)) (gives (OfLocal 0 k)) (shown.scalars k h);
    }

  -- ---- of an array parameter

  module _ (n : ℕ) (id : row.variable.id ≡ Local n) (is_array : Own n ≡ true) (long : length (old (OfEntry n)) ≡ length row.words)
      (kept : List ℕ) (kept_long : length kept ≡ w) (view_is : view_of_words kept ≡ whole_array n (length row.words))
      (gives : (r : Region) → new r ≡ with_region (OfLocal 0 n) kept (with_region (OfEntry n) (covered row.words (old (OfEntry n))) old) r) where
    abbrev array_given : Given
    array_given = record {
      passed = record given.passed { views = (Local n, whole_array n (length row.words)) ∷ given.passed.views };
      memory = with_words given.memory (Local n) row.words;
    }

    new_array : new (OfEntry n) ≡ row.words
    new_array =
        gives (OfEntry n) ∙ region_here (covered row.words (old (OfEntry n))) old (OfEntry n) ∙ covered_whole row.words (old (OfEntry n)) long

    other_array : (k : ℕ) → k ≢ n → new (OfEntry k) ≡ old (OfEntry k)
    other_array k other = gives (OfEntry k) ∙ region_away (covered row.words (old (OfEntry n))) old (OfEntry n) (OfEntry k) (ne_eqb n k (λ e. other (sym e)))

    other_local : (k : ℕ) → k ≢ n → new (OfLocal 0 k) ≡ old (OfLocal 0 k)
    other_local k other = gives (OfLocal 0 k) ∙ local_away kept (with_region (OfEntry n) (covered row.words (old (OfEntry n))) old) 0 n k (λ e. other (sym e))

    array_lengths : HaveSameLengths old new
    array_lengths (File k) = ap length (gives (OfFile k))
    array_lengths (Local k) = elim (cases_eq k n) [
      | inl same ↦ ap (λ j. length (new (OfEntry j))) same ∙ ap length new_array ∙ sym long ∙ ap (λ j. length (old (OfEntry j))) (sym same)
      | inr other ↦ ap length (other_array k other)
    ]

    new_view : view_at new 0 (Local n) ≡ whole_array n (length row.words)
    new_view =
        ap (view_kept new (Local n)) (gives (OfLocal 0 n) ∙ region_here kept (with_region (OfEntry n) (covered row.words (old (OfEntry n))) old) (OfLocal 0 n))
        ∙ kept_whole new (Local n) kept (omega (arith, kept_long, wide))
        (subst (λ (v : View). v.first + v.len ≤ length (new (array_region v.array))) (sym view_is) (omega (arith, ap length new_array)))
        ∙ view_is

    mine : ShowsArray variables entry new array_given n
    mine = record {
      is_array = is_array;
      words = words_set given.memory (Local n) row.words ∙ sym new_array;
      view = ap (λ b. if b then whole_array n (length row.words) else view_in given.passed.views (Local n)) (itself (Local n)) ∙ sym new_view;
    }

    other_id : (k : ℕ) → k ≢ n → Local k ≢ Local n
    other_id k other e = other (cc e)

    array_arrays : (k : ℕ) → ShowsArray variables entry new array_given k ⊎ HasNoArray rows (suc count) array_given k
    array_arrays k = elim (cases_eq k n) [
      | inl same ↦ inl (subst (ShowsArray variables entry new array_given) (sym same) mine)
      | inr other ↦
          let words = words_kept (Local n) (Local k) row.words (other_id k other) given.memory in
          elim (shown.arrays k) [
            | inl s ↦ inl (record {
              is_array = s.is_array;
              words = words ∙ s.words ∙ sym (other_array k other);
              view = ap (λ b. if b then whole_array n (length row.words) else view_in given.passed.views (Local k))
                  (another (Local n) (Local k) (λ e. other_id k other (sym e)))
                  ∙ s.view ∙ sym (view_same old new array_lengths 0 k (other_local k other));
            })
            | inr s ↦ inr (record {
              no_row = no_row_more k s.no_row (λ e. absurd (other_id k other (sym e ∙ id)));
              words = words ∙ s.words;
            })
          ]
    ]

    array_shown : ShowsGiven variables w entry new rows (suc count) array_given
    array_shown = record {
      file = λ k. words_kept (Local n) (File k) row.words (λ e. cc e) given.memory ∙ shown.file k ∙ sym (gives (OfFile k));
      arrays = array_arrays;
      scalars = λ k h.
          let s = shown.scalars k h in
          scalar_same k (words_of given.passed.vars (Local k)) (other_local k (λ e. true≢false (sym is_array ∙ ap Own (sym e) ∙ s.0))) s;
    }

  -- ---- of a scalar parameter

  module _ (n : ℕ) (id : row.variable.id ≡ Local n) (no_array : row.variable.is_array ≡ false) (is_scalar : Own n ≡ false)
      (uniform : rate_of (slice_get (own_of variables entry) n) ≡ Uniform) (one : length row.words ≡ 1)
      (gives : (r : Region) → new r ≡ with_region (OfLocal 0 n) (covered row.words (old (OfLocal 0 n))) old r) where
    abbrev scalar_given : Given
    scalar_given = record given { passed = record given.passed { vars = (Local n, row.words) ∷ given.passed.vars } }

    away : (k : ℕ) → k ≢ n → new (OfLocal 0 k) ≡ old (OfLocal 0 k)
    away k other = gives (OfLocal 0 k) ∙ local_away (covered row.words (old (OfLocal 0 n))) old 0 n k (λ e. other (sym e))

    scalar_lengths : HaveSameLengths old new
    scalar_lengths (File k) = ap length (gives (OfFile k))
    scalar_lengths (Local k) = ap length (gives (OfEntry k))

    scalar_arrays : (k : ℕ) → ShowsArray variables entry new scalar_given k ⊎ HasNoArray rows (suc count) scalar_given k
    scalar_arrays k = elim (shown.arrays k) [
      | inl s ↦
          let other : k ≢ n = λ e. true≢false (sym s.is_array ∙ ap Own e ∙ is_scalar) in
          inl (record {
            is_array = s.is_array;
            words = s.words ∙ sym (gives (OfEntry k));
            view = s.view ∙ sym (view_same old new scalar_lengths 0 k (away k other));
          })
      | inr s ↦ inr (record { no_row = no_row_more k s.no_row (λ e. no_array); words = s.words })
    ]

    abbrev Shown : ℕ → Type 0
    Shown k = (Own k ≡ false) × IsScalarIn w (rate_of (slice_get (own_of variables entry) k)) (words_of scalar_given.passed.vars (Local k)) (new (OfLocal 0 k))

    mine_shown : Shown n
    mine_shown =
        let words : words_of scalar_given.passed.vars (Local n) ≡ row.words = ap (λ b. if b then row.words else words_of given.passed.vars (Local n)) (itself (Local n)) in
        let region : new (OfLocal 0 n) ≡ covered row.words (old (OfLocal 0 n)) =
        gives (OfLocal 0 n) ∙ region_here (covered row.words (old (OfLocal 0 n))) old (OfLocal 0 n) in
        let stands : IsScalarIn w Uniform row.words (covered row.words (old (OfLocal 0 n))) = record { long = one; stands = one_first row.words (old (OfLocal 0 n)) one } in (
          is_scalar,
          subst (λ r. IsScalarIn w r (words_of scalar_given.passed.vars (Local n)) (new (OfLocal 0 n))) (sym uniform)
              (subst (λ ws. IsScalarIn w Uniform ws (new (OfLocal 0 n))) (sym words) (subst (IsScalarIn w Uniform row.words) (sym region) stands)),
        )

    scalar_scalars : (k : ℕ) → has_entry scalar_given.passed.vars (Local k) ≡ true → Shown k
    scalar_scalars k h = elim (cases_eq k n) [
      | inl same ↦ subst Shown (sym same) mine_shown
      | inr other ↦
          let apart = another (Local n) (Local k) (λ e. other (cc e)) in
          let before = shown.scalars k (ap (λ b. b || has_entry given.passed.vars (Local k)) (sym apart) ∙ h) in
          let words : words_of given.passed.vars (Local k) ≡ words_of scalar_given.passed.vars (Local k) =
          ap (λ b. if b then row.words else words_of given.passed.vars (Local k)) (sym apart) in
          scalar_same k (words_of scalar_given.passed.vars (Local k)) (away k other)
          (before.0, subst (λ ws. IsScalarIn w (rate_of (slice_get (own_of variables entry) k)) ws (old (OfLocal 0 k))) words before.1)
    ]

    scalar_shown : ShowsGiven variables w entry new rows (suc count) scalar_given
    scalar_shown = record {
      file = λ k. shown.file k ∙ sym (gives (OfFile k));
      arrays = scalar_arrays;
      scalars = scalar_scalars;
    }

  -- ---- of any variable

  parameter_given : (n : ℕ) → row.variable.id ≡ Local n → IsParameterRow variables entry old n row → (b : Bool) → row.variable.is_array ≡ b
      → GivesParameter w n (Own n) row.words old new → ShowsGiven variables w entry new rows (suc count) (with_row (Local n) row given)
  parameter_given n id is true array gives =
      let own = is.is_array ∙ array in
      let (kept, kept_long, view_is, regions) = subst (λ b. GivesParameter w n b row.words old new) own gives in
      subst (λ b. ShowsGiven variables w entry new rows (suc count) (if b then array_given n id own (is.long array) kept kept_long view_is regions else record given { passed = record given.passed { vars = (Local n, row.words) ∷ given.passed.vars } })) (sym array)
      (array_shown n id own (is.long array) kept kept_long view_is regions)
  parameter_given n id is false array gives =
      let own = is.is_array ∙ array in
      let regions = subst (λ b. GivesParameter w n b row.words old new) own gives in
      subst (λ b. ShowsGiven variables w entry new rows (suc count) (if b
      then record {
        passed = record given.passed { views = (Local n, whole_array n (length row.words)) ∷ given.passed.views };
        memory = with_words given.memory (Local n) row.words;
      }
      else scalar_given n id array own (is.uniform array) (is.one array) regions)) (sym array)
      (scalar_shown n id array own (is.uniform array) (is.one array) regions)

  pub row_given : ((n : ℕ) → row.variable.id ≡ File n → length row.words ≤ length (old (OfFile n))) → ((n : ℕ) → row.variable.id ≡ Local n → IsParameterRow variables entry old n row)
      → GivesRow variables w entry row.variable.id row.words old new → ShowsGiven variables w entry new rows (suc count) (with_row row.variable.id row given)
  row_given fits right gives = by row.variable.id refl gives
    where
      by : (v : VarId) → row.variable.id ≡ v → GivesRow variables w entry v row.words old new → ShowsGiven variables w entry new rows (suc count) (with_row v row given)
      by (File n) id g = file_given n id (fits n id) g
      by (Local n) id g = parameter_given n id (right n id) row.variable.is_array refl g

-- ---- all rows

module _ (variables : Variables) (w entry : ℕ) (regions : Regions) (rows : List Row) (count : ℕ) (given : Given) (shown : ShowsGiven variables w entry regions rows count given) where
  -- the arrays and the variables of the file are all there, where a parameter without an array's row has no array
  pub given_memory : ((n : ℕ) → HasNoArrayRow rows count n → regions (OfEntry n) ≡ []) → AreMemory regions given.memory
  given_memory none (File n) = shown.file n
  given_memory none (Local n) = elim (shown.arrays n) [
    | inl s ↦ s.words
    | inr s ↦ s.words ∙ sym (none n s.no_row)
  ]

  -- each array parameter stands for its array, where each has a row
  pub given_views : ((n : ℕ) → is_array_of (slice_get (own_of variables entry) n) ≡ true → HasNoArrayRow rows count n → ⊥)
      → (n : ℕ) → ShowsView variables regions 0 entry given.passed.views n
  given_views all n array = elim (shown.arrays n) [
    | inl s ↦ s.view
    | inr s ↦ absurd (all n array s.no_row)
  ]
