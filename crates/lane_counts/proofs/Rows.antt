-- Counts by numbers.
use Rattle.std.proofs.Common.{◌≡◌, refl, ℕ, zero, suc, List, [], ◌∷◌, ◌++◌}
use Rattle.lane_counts.specs.declared.counts.Counts.{Counts}
use Rattle.lane_counts.specs.Counted.{counts_at, none}

-- rows with one more in which nothing is counted
pub none_more : (rows : List Counts) (number : ℕ) → counts_at (rows ++ none ∷ []) number ≡ counts_at rows number
none_more [] zero = refl
none_more [] (suc number) = refl
none_more (row ∷ rows) zero = refl
none_more (row ∷ rows) (suc number) = none_more rows number
