-- Folds over the lanes below a lane.
use Rattle.std.specs.Prelude.{ℕ, zero, suc, ◌+◌, ◌-◌, ◌%◌, ◌^◌, List, slice_index_or, cond, nat_lt, nat_le, bit_and, bit_or}
use Rattle.cross_lane.specs.declared.folds.Fold.{Fold}
use Rattle.cross_lane.specs.declared.folds.Fold.TheVariants.{Add, And, Or, Min, Max}

-- two words in one
abbrev pub combined : Fold → ℕ → ℕ → ℕ
combined Add x y = (x + y) % 2 ^ 64
combined And x y = bit_and x y
combined Or x y = bit_or x y
combined Min x y = cond (nat_lt y x) y x
combined Max x y = cond (nat_lt x y) y x

-- the word that changes no other
abbrev pub neutral : Fold → ℕ
neutral Add = 0
neutral And = 2 ^ 64 - 1
neutral Or = 0
neutral Min = 2 ^ 64 - 1
neutral Max = 0

-- the numbers m of the lanes below k, folded from the start e
abbrev pub fold_below : (ℕ → ℕ → ℕ) → ℕ → (ℕ → ℕ) → ℕ → ℕ
fold_below f e m zero = e
fold_below f e m (suc k) = f (fold_below f e m k) (m k)

-- lane `at` of the words, where lanes begin at 16, and `fill` where there is none
abbrev pub windowed : ℕ → List ℕ → ℕ → ℕ
windowed fill words at = cond (nat_le 16 at) (slice_index_or words (at - 16) fill) fill
