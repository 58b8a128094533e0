-- Rows of accesses, one after another.
use Rattle.std.proofs.Common.{◌≡◌, refl, sym, ap, ◌∙◌, subst, ℕ, zero, suc, ◌+◌, ◌<◌, ◌≤◌, Bool, true, false, List, [], ◌∷◌, ◌++◌, get_or, length, Option, Some, None, inl, inr, arith}
use Rattle.std.specs.Prelude.{◌⊎◌, if◌then◌else◌, option_map, slice_get, slice_set}
use Rattle.std.proofs.lemmas.Bool.Decides.{nat_tests}
use Rattle.std.proofs.lemmas.Option.{slice_get_read}
use Rattle.gang_types.specs.declared.places.Spot.{Spot}
use Rattle.gang_model.specs.Debugger.Debugger.{Debugger, Setting}
use Rattle.typed_tree.specs.declared.program.Program.{Program}
use Rattle.element_touches.specs.declared.counts.AccessCounts.{AccessCounts}
use Rattle.element_touches.specs.Counted.{IsFew}
use Rattle.element_accesses.specs.declared.accesses.Access.{Access}
use Rattle.element_accesses.specs.declared.step_rows.FunctionRows.{FunctionRows}
use Rattle.element_accesses.specs.declared.step_rows.Stretch.{Stretch}
use Rattle.element_accesses.specs.Rows.{ArePlaced, AreRows, IsNoted, IsNotedOne, IsRow, kept, stands_at}
use Rattle.element_accesses.specs.StepRows.{is_within, stretch_at}
use Rattle.element_accesses.specs.Found.{Accessed}

-- one row more
pub rows_more : (p : Program) (rows : List Access) (access : Access) (others : List Accessed) (accessed : Accessed) → AreRows p rows others → IsRow p access accessed
    → AreRows p (rows ++ access ∷ []) (others ++ accessed ∷ [])
rows_more p [] access [] accessed are one = (one, tt)
rows_more p [] access (other ∷ others) accessed are one = absurd are
rows_more p (row ∷ rows) access [] accessed are one = absurd are
rows_more p (row ∷ rows) access (other ∷ others) accessed are one = (are.0, rows_more p rows access others accessed are.1 one)

pub set_length : (rows : List Access) (n : ℕ) (access : Access) → length (slice_set rows n access) ≡ length rows
set_length [] n access = refl
set_length (row ∷ rows) zero access = refl
set_length (row ∷ rows) (suc n) access = ap suc (set_length rows n access)

set_here : (rows : List Access) (n : ℕ) (access : Access) → n < length rows → slice_get (slice_set rows n access) n ≡ Some access
set_here [] n access h = absurd (omega arith)
set_here (row ∷ rows) zero access h = refl
set_here (row ∷ rows) (suc n) access h = set_here rows n access (omega arith)

set_below : (rows : List Access) (n k : ℕ) (access : Access) → k < n → slice_get (slice_set rows n access) k ≡ slice_get rows k
set_below [] n k access h = refl
set_below (row ∷ rows) zero k access h = absurd (omega arith)
set_below (row ∷ rows) (suc n) zero access h = refl
set_below (row ∷ rows) (suc n) (suc k) access h = set_below rows n k access (omega arith)

set_above : (rows : List Access) (n k : ℕ) (access : Access) → n + 1 ≤ k → slice_get (slice_set rows n access) k ≡ slice_get rows k
set_above [] n k access h = refl
set_above (row ∷ rows) zero zero access h = absurd (omega arith)
set_above (row ∷ rows) zero (suc k) access h = refl
set_above (row ∷ rows) (suc n) zero access h = absurd (omega arith)
set_above (row ∷ rows) (suc n) (suc k) access h = set_above rows n k access (omega arith)

below_or_at : (k n : ℕ) → k < n + 1 → (k < n) ⊎ (k ≡ n)
below_or_at zero zero h = inr refl
below_or_at zero (suc n) h = inl (omega arith)
below_or_at (suc k) zero h = absurd (omega arith)
below_or_at (suc k) (suc n) h = elim (below_or_at k n (omega arith)) [ inl less ↦ inl (omega (arith, less)) | inr is ↦ inr (ap suc is) ]

less_or_more : (k n : ℕ) → (k < n) ⊎ (n ≤ k)
less_or_more k zero = inr (omega arith)
less_or_more zero (suc n) = inl (omega arith)
less_or_more (suc k) (suc n) = elim (less_or_more k n) [ inl less ↦ inl (omega (arith, less)) | inr more ↦ inr (omega (arith, more)) ]

-- past the last row there is none
past : (rows : List Access) (k : ℕ) → length rows ≤ k → slice_get rows k ≡ None
past [] k h = refl
past (row ∷ rows) zero h = absurd (omega arith)
past (row ∷ rows) (suc k) h = past rows k (omega arith)

-- ---- those of a stretch, up to a row

-- the rows from one on, before another
abbrev pub before : (first row : ℕ) → Stretch
before first row = record { first = first; end = row }

-- where a loop over those rows of a stretch that are among so many has come to its end
pub record IsOver (stretch : Stretch) (count row : ℕ) : Type 0 where
  pub few : stretch.first < row → row ≤ stretch.end
  pub all : (k : ℕ) → k < stretch.end → k < count → k < row

over_within : (stretch : Stretch) (count row k : ℕ) → IsOver stretch count row → k < count → is_within (before stretch.first row) k ≡ is_within stretch k
over_within stretch count row k over less = grind (arith, nat_tests, over.few, over.all k, less)

none_either : (b : Bool) → (if b then option_map kept None else None) ≡ None
none_either true = refl
none_either false = refl

pub all_kept : (noted : Stretch) (first rows : List Access) (row : ℕ) → IsOver noted (length rows) row → length rows ≡ length first
    → ((k : ℕ) → slice_get rows k ≡ (if is_within (before noted.first row) k then option_map kept (slice_get first k) else slice_get first k))
    → (k : ℕ) → slice_get rows k ≡ (if is_within noted k then option_map kept (slice_get first k) else slice_get first k)
all_kept noted first rows row over same so k = elim (less_or_more k (length rows)) [
  | inl less ↦ so k ∙ ap (λ b. if b then option_map kept (slice_get first k) else slice_get first k) (over_within noted (length rows) row k over less)
  | inr more ↦
      let none : slice_get first k ≡ None = past first k (omega (arith, more, same)) in
      past rows k more ∙ sym (ap (λ o. if is_within noted k then option_map kept o else o) none ∙ none_either (is_within noted k))
]

module _ {T : Type 0} (stands : T → Setting → Debugger → Type 0) (machine : T) (depth : ℕ) (spot : Spot) (first rows : List Access) where
  module _ (from row : ℕ) (those : (k : ℕ) → is_within (before from row) k ≡ true → IsNoted stands machine depth spot (slice_get first k) (slice_get rows k))
      (others : (k : ℕ) → is_within (before from row) k ≡ false → slice_get rows k ≡ slice_get first k) where
    -- those before this one are noted, and the others are as they were
    pub noted_more : (old new : Access) → row < length rows → old ≡ get_or rows row old → IsNotedOne stands machine depth spot old new
        → (k : ℕ) → is_within (before from (row + 1)) k ≡ true → IsNoted stands machine depth spot (slice_get first k) (slice_get (slice_set rows row new) k)
    noted_more old new below is one k within =
        let near : k < row + 1 = grind (arith, nat_tests) in
        elim (below_or_at k row near) [
          | inl less ↦ subst (IsNoted stands machine depth spot (slice_get first k)) (sym (set_below rows row k new less)) (those k (grind (arith, nat_tests, less, within)))
          | inr same ↦ subst (λ j. IsNoted stands machine depth spot (slice_get first j) (slice_get (slice_set rows row new) j)) (sym same)
              (subst (λ o. IsNoted stands machine depth spot o (slice_get (slice_set rows row new) row)) (sym (slice_get_read rows (length rows) row old refl below is) ∙ others row (grind (arith, nat_tests)))
              (new, set_here rows row new below, one))
        ]

    pub others_more : (new : Access) → from ≤ row → (k : ℕ) → is_within (before from (row + 1)) k ≡ false → slice_get (slice_set rows row new) k ≡ slice_get first k
    others_more new begun k outside = elim (less_or_more k row) [
      | inl less ↦ set_below rows row k new less ∙ others k (grind (arith, nat_tests, less, outside))
      | inr more ↦
          let behind : row + 1 ≤ k = grind (arith, nat_tests, more, outside, begun) in
          set_above rows row k new behind ∙ others k (grind (arith, nat_tests, behind))
    ]

  module _ (stretch : Stretch) (row : ℕ) (over : IsOver stretch (length rows) row) (same : length rows ≡ length first) where
    pub all_noted : ((k : ℕ) → is_within (before stretch.first row) k ≡ true → IsNoted stands machine depth spot (slice_get first k) (slice_get rows k))
        → (k : ℕ) → is_within stretch k ≡ true → IsNoted stands machine depth spot (slice_get first k) (slice_get rows k)
    all_noted those k within = elim (less_or_more k (length rows)) [
      | inl less ↦ those k (over_within stretch (length rows) row k over less ∙ within)
      | inr more ↦ subst (λ o. IsNoted stands machine depth spot o (slice_get rows k)) (sym (past first k (omega (arith, more, same)))) (past rows k more)
    ]

    pub all_others : ((k : ℕ) → is_within (before stretch.first row) k ≡ false → slice_get rows k ≡ slice_get first k)
        → (k : ℕ) → is_within stretch k ≡ false → slice_get rows k ≡ slice_get first k
    all_others others k outside = elim (less_or_more k (length rows)) [
      | inl less ↦ others k (over_within stretch (length rows) row k over less ∙ outside)
      | inr more ↦ past rows k more ∙ sym (past first k (omega (arith, more, same)))
    ]

-- ---- the rows that are not among those of the step

few_more : (most : ℕ) (c : AccessCounts) → IsFew most c → IsFew (most + 16) c
few_more most c few = record {
  times = omega (arith, few.times);
  lanes = omega (arith, few.lanes);
  elements = omega (arith, few.elements);
  consecutive = omega (arith, few.consecutive);
  equal = omega (arith, few.equal);
  scattered = omega (arith, few.scattered);
}

stands_elsewhere : (functions : List FunctionRows) (access : Access) (spot : Spot) (row : ℕ) → is_within (stretch_at functions access.spot.function.0 access.spot.number) row ≡ true
    → is_within (stretch_at functions spot.function.0 spot.number) row ≡ false → (b : Bool) → stands_at access spot ≡ b → b ≡ false
stands_elsewhere functions access spot row placed outside false is = refl
stands_elsewhere functions access spot row placed outside true is =
    let numbers : access.spot.number ≡ spot.number = grind (arith, nat_tests) in
    let same : access.spot.function.0 ≡ spot.function.0 = grind (arith, nat_tests) in
    let contradiction : true ≡ false = sym placed ∙ ap (λ n. is_within (stretch_at functions access.spot.function.0 n) row) numbers ∙ ap (λ n. is_within (stretch_at functions n spot.number) row) same ∙ outside in
    cc contradiction

module _ {T : Type 0} (stands : T → Setting → Debugger → Type 0) (machine : T) (depth : ℕ) (spot : Spot) where
  unnoted : (old : Option Access) → ((access : Access) → old ≡ Some access → stands_at access spot ≡ false) → IsNoted stands machine depth spot old old
  unnoted None elsewhere = refl
  unnoted (Some access) elsewhere = (
    access,
    refl,
    record {
      others = refl;
      elsewhere = λ _. refl;
      few = λ most few. few_more most access.tried few;
      here = λ there. let contradiction : true ≡ false = sym there ∙ elsewhere access refl in cc contradiction;
    },
  )

  pub noted_by_step : (functions : List FunctionRows) (of_step : Stretch) (old new : List Access) → of_step ≡ stretch_at functions spot.function.0 spot.number → ArePlaced functions old
      → ((k : ℕ) → is_within of_step k ≡ true → IsNoted stands machine depth spot (slice_get old k) (slice_get new k))
      → ((k : ℕ) → is_within of_step k ≡ false → slice_get new k ≡ slice_get old k)
      → (k : ℕ) (b : Bool) → is_within of_step k ≡ b → IsNoted stands machine depth spot (slice_get old k) (slice_get new k)
  noted_by_step functions of_step old new at placed these others k true within = these k within
  noted_by_step functions of_step old new at placed these others k false outside =
      subst (IsNoted stands machine depth spot (slice_get old k)) (sym (others k outside)) (unnoted (slice_get old k)
      (λ access is. stands_elsewhere functions access spot k (placed k access is) (ap (λ stretch. is_within stretch k) (sym at) ∙ outside) (stands_at access spot) refl))

-- of accesses of which nothing is counted nothing was noted that was not kept
pub begun_settled : (p : Program) (rows : List Access) (others : List Accessed) → AreRows p rows others → (k : ℕ) (access : Access) → slice_get rows k ≡ Some access → access.tried ≡ access.done
begun_settled p [] others are k access is = cc is
begun_settled p (row ∷ rows) [] are k access is = absurd are
begun_settled p (row ∷ rows) (other ∷ others) are zero access is = grind (arith, are.0.done, are.0.tried, is)
begun_settled p (row ∷ rows) (other ∷ others) are (suc k) access is = begun_settled p rows others are.1 k access is
