-- The elements of an array that lanes touch together.
use Rattle.std.specs.Prelude.{ℕ, Bool, true, ◌&&◌, ◌+◌, ◌==◌, List, [], ◌∷◌, map, if◌then◌else◌}
use Rattle.std.specs.List.{list_all, list_any}
use Rattle.gang_types.specs.Lanes.{Lanes}
use Rattle.gang_model.specs.Running.Lanes.{at, members}

-- the elements that an access touches: the value of its index in each of the lanes, in ascending order of the lanes
abbrev pub touched : Lanes → (indices : List ℕ) → List ℕ
touched lanes indices = map (at indices) (members lanes)

-- how many different elements there are: those that do not come again
abbrev pub different : List ℕ → ℕ
different [] = 0
different (i ∷ is) = (if list_any (λ j. j == i) is then 0 else 1) + different is

-- whether each element is the one after the one before it
abbrev pub is_consecutive : List ℕ → Bool
is_consecutive [] = true
is_consecutive (i ∷ []) = true
is_consecutive (i ∷ j ∷ is) = (j == i + 1) && is_consecutive (j ∷ is)

-- whether all elements are one
abbrev pub is_equal : List ℕ → Bool
is_equal [] = true
is_equal (i ∷ is) = list_all (λ j. j == i) is
