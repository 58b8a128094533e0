-- Which columns stand in which row.
use Rattle.std.specs.Prelude.{◌≡◌, ℕ, ◌+◌, min, List, [], ◌∷◌}
use Rattle.lane_picture.specs.declared.spans.Span.{Span}

-- columns from one on in rows of so many: each row has so many, or all that are left, the next one goes on where it ends, and the last
-- one ends with the last column
abbrev pub AreRows : (most columns from : ℕ) → List Span → Type 0
AreRows most columns from [] = from ≡ columns
AreRows most columns from (row ∷ rows) = (row.from ≡ from) × (row.to ≡ min (from + most) columns) × AreRows most columns row.to rows
