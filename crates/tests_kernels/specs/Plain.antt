-- What the plain loops keep.
use Rattle.std.specs.Prelude.{ℕ, ◌≡◌, ◌<◌, true, List, slice_index, Result, Ok, Err}
use Rattle.gang_types.specs.declared.faults.FaultName.{FaultName}
use Rattle.gang_types.specs.Lanes.{Lanes, has}

-- 0 for an operation that cannot be done
abbrev pub word_or_zero : Result ℕ FaultName → ℕ
word_or_zero (Ok word) = word
word_or_zero (Err fault) = 0

-- no lane of the set below k has the divisor 0
abbrev pub NoZeroBelow : ℕ → Lanes → List ℕ → Type 0
NoZeroBelow k lanes b = (i : ℕ) → i < k → has lanes i ≡ true → 0 < slice_index b i
