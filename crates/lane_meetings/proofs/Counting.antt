-- Rows, with a parting more.
use Rattle.std.proofs.Common.{◌≡◌, refl, sym, ap, ◌∙◌, ℕ, ◌+◌, ◌<◌, ◌≤◌, Bool, true, false, List, get_or, length, set, Option, Some, None, arith}
use Rattle.std.specs.Prelude.{◌==◌, ◌^◌, if◌then◌else◌}
use Rattle.std.proofs.lemmas.Bool.Decides.{nat_tests}
use Rattle.std.proofs.lemmas.List.Sums.{get_or-le-sum_by, sum_by-set}
use Rattle.lane_meetings.specs.declared.rows.Parting.{Parting}
use Rattle.lane_meetings.specs.Partings.{Measure, Times, Between, amount, is_of, is_same, row_gives, rows_give, weight}
use Rattle.lane_meetings.specs.Pending.{Fits}
use Rattle.lane_meetings.proofs.Meeting.{left_true, right_true}

same_meets : (one other : Option ℕ) → is_same one other ≡ true → one ≡ other
same_meets None None is = refl
same_meets None (Some other) is = cc is
same_meets (Some one) None is = cc is
same_meets (Some one) (Some other) is = let same : one ≡ other = grind (arith, nat_tests, is) in ap Some same

pub one_row : (one other : Parting) → Some one ≡ Some other → one ≡ other
one_row one other is = cc is

pub same_line : (line : ℕ) (meets_at : Option ℕ) (row : Parting) → is_of line meets_at row ≡ true → row.line ≡ line
same_line line meets_at row is = let eq : (row.line == line) ≡ true = left_true (row.line == line) (is_same row.meets_at meets_at) is in grind (arith, nat_tests, eq)

pub same_at : (line : ℕ) (meets_at : Option ℕ) (row : Parting) → is_of line meets_at row ≡ true → row.meets_at ≡ meets_at
same_at line meets_at row is = same_meets row.meets_at meets_at (right_true (row.line == line) (is_same row.meets_at meets_at) is)

module _ (measure : Measure) (chosen : ℕ → Option ℕ → Bool) where
  -- a row with a parting more
  pub row_more : (line between : ℕ) (meets_at : Option ℕ) (old new : Parting) → old.line ≡ line → old.meets_at ≡ meets_at → new.line ≡ old.line → new.meets_at ≡ old.meets_at
      → (Fits (old.times + 1) → new.times ≡ old.times + 1) → (Fits (old.between + between) → new.between ≡ old.between + between)
      → Fits (row_gives measure chosen old + weight measure chosen line (record { at = meets_at; between = between }))
      → row_gives measure chosen new ≡ row_gives measure chosen old + weight measure chosen line (record { at = meets_at; between = between })
  row_more line between meets_at old new is_line is_at line_too at_too times betweens fits =
      let in_old : chosen old.line old.meets_at ≡ chosen line meets_at = ap (λ l. chosen l old.meets_at) is_line ∙ ap (chosen line) is_at in
      let in_new : chosen new.line new.meets_at ≡ chosen line meets_at = ap (λ l. chosen l new.meets_at) line_too ∙ ap (chosen old.line) at_too ∙ in_old in
      let old_is : row_gives measure chosen old ≡ (if chosen line meets_at then amount measure old.times old.between else 0) = ap (λ b. if b then amount measure old.times old.between else 0) in_old in
      let new_is : row_gives measure chosen new ≡ (if chosen line meets_at then amount measure new.times new.between else 0) = ap (λ b. if b then amount measure new.times new.between else 0) in_new in
      new_is ∙ go measure (chosen line meets_at) (omega (arith, fits, old_is)) ∙ ap (λ n. n + weight measure chosen line (record { at = meets_at; between = between })) (sym old_is)
    where
      go : (it : Measure) (b : Bool) → (if b then amount it old.times old.between else 0) + (if b then amount it 1 between else 0) < 2 ^ 64
          → (if b then amount it new.times new.between else 0) ≡ (if b then amount it old.times old.between else 0) + (if b then amount it 1 between else 0)
      go it false fits = refl
      go Times true fits = times fits
      go Between true fits = betweens fits

  -- rows with a parting more at one of them
  pub rows_more : (rows : List Parting) (number line between : ℕ) (meets_at : Option ℕ) (old new : Parting) → number < length rows → get_or rows number old ≡ old
      → is_of line meets_at old ≡ true → new.line ≡ old.line → new.meets_at ≡ old.meets_at
      → (Fits (old.times + 1) → new.times ≡ old.times + 1) → (Fits (old.between + between) → new.between ≡ old.between + between)
      → Fits (rows_give measure chosen rows + weight measure chosen line (record { at = meets_at; between = between }))
      → rows_give measure chosen (set rows number new) ≡ rows_give measure chosen rows + weight measure chosen line (record { at = meets_at; between = between })
  rows_more rows number line between meets_at old new within there is line_too at_too times betweens fits =
      let gives = row_gives measure chosen in
      let one : gives (get_or rows number old) ≡ gives old = ap gives there in
      let few : gives old ≤ rows_give measure chosen rows = omega (arith, one, get_or-le-sum_by gives rows number old within) in
      let row = row_more line between meets_at old new (same_line line meets_at old is) (same_at line meets_at old is) line_too at_too times betweens (omega (arith, few, fits)) in
      omega (arith, sum_by-set gives rows number new old within, one, row)
