-- Rows, one after another.
use Rattle.std.proofs.Common.{◌≡◌, ◌∙◌, sym, ap, subst, ℕ, ◌+◌, List, [], ◌∷◌, ◌++◌, arith}
use Rattle.std.specs.Prelude.{min}
use Rattle.std.proofs.lemmas.List.{append-nil}
use Rattle.std.proofs.Math.Seq.{append_snoc}
use Rattle.lane_picture.specs.Rows.{AreRows}
use Rattle.lane_picture.specs.declared.spans.Span.{Span}

module _ (most columns : ℕ) where
  -- rows that are completed by what goes on at a column
  abbrev pub GoOn : ℕ → List Span → Type 0
  GoOn from rows = (rest : List Span) → AreRows most columns from rest → AreRows most columns 0 (rows ++ rest)

  pub first_row : (row : Span) (rows : List Span) → rows ≡ row ∷ [] → row.from ≡ 0 → row.to ≡ min most columns → GoOn row.to rows
  first_row row rows is from to rest has = subst (λ xs. AreRows most columns 0 (xs ++ rest)) (sym is) (from, omega (arith, to), has)

  pub row_more : (row : Span) (old new : List Span) (from : ℕ) → new ≡ old ++ row ∷ [] → row.from ≡ from → row.to ≡ min (from + most) columns
      → GoOn from old → GoOn row.to new
  row_more row old new from is starts to so rest has =
      subst (AreRows most columns 0) (sym (ap (λ xs. xs ++ rest) is ∙ append_snoc old row rest)) (so (row ∷ rest) (starts, to, has))

  pub rows_whole : (rows : List Span) (from : ℕ) → from ≡ columns → GoOn from rows → AreRows most columns 0 rows
  rows_whole rows from ends so = subst (AreRows most columns 0) (append-nil rows) (so [] ends)
