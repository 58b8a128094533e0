-- The rows of the steps of a program.
use Rattle.std.specs.Prelude.{◌≡◌, ℕ, Bool, true, ◌&&◌, nat_le, nat_lt, List, [], Option, Some, None, slice_get, slice_index_or}
use Rattle.element_accesses.specs.declared.step_rows.Stretch.{Stretch}
use Rattle.element_accesses.specs.declared.step_rows.FunctionRows.{FunctionRows}

-- no row
abbrev pub nothing : Stretch
nothing = record { first = 0; end = 0 }

-- whether a row is one of these
abbrev pub is_within : Stretch → (row : ℕ) → Bool
is_within stretch row = nat_le stretch.first row && nat_lt row stretch.end

-- the rows of a step, by its number among those of its function
abbrev pub stretch_in : List Stretch → (number : ℕ) → Stretch
stretch_in steps number = slice_index_or steps number nothing

-- those of the steps of a function
abbrev pub steps_in : Option FunctionRows → List Stretch
steps_in None = []
steps_in (Some rows) = rows.steps.items

-- the rows of a step of a function
abbrev pub stretch_at : List FunctionRows → (function number : ℕ) → Stretch
stretch_at functions function number = stretch_in (steps_in (slice_get functions function)) number

-- each step has the rows that it had
abbrev pub KeepsIn : (old new : List Stretch) → Type 0
KeepsIn old new = (number row : ℕ) → is_within (stretch_in old number) row ≡ true → is_within (stretch_in new number) row ≡ true

abbrev pub Keeps : (old new : List FunctionRows) → Type 0
Keeps old new = (function number row : ℕ) → is_within (stretch_at old function number) row ≡ true → is_within (stretch_at new function number) row ≡ true
