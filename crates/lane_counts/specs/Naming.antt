-- Names by their numbers.
use Rattle.std.specs.Prelude.{◌≡◌, ℕ, List, Option, Some, option_map, slice_get}
use Rattle.lane_counts.specs.declared.names.Names.{Names}

-- the name of a number
abbrev pub name_at : Names → ℕ → Option (List ℕ)
name_at names number = option_map (λ name. name.items) (slice_get names.names.items number)

-- it is the name of a number
abbrev pub HasName : Names → List ℕ → Type 0
HasName names name = (number : ℕ) × (name_at names number ≡ Some name)

-- each number has the name that it had
abbrev pub Extends : (old new : Names) → Type 0
Extends old new = (number : ℕ) (name : List ℕ) → name_at old number ≡ Some name → name_at new number ≡ Some name

-- no two numbers have one name
abbrev pub AreDistinct : Names → Type 0
AreDistinct names = (number other : ℕ) (name : List ℕ) → name_at names number ≡ Some name → name_at names other ≡ Some name → number ≡ other
