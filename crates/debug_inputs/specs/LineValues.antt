-- The values of a line, as far as they are kept.
use Rattle.std.specs.Prelude.{◌≡◌, ℕ, false, nat_lt, min, List, map, length, Option, Some, None, ℤ, if◌then◌else◌}
use Rattle.gang_types.specs.declared.types.IntType.{IntType}
use Rattle.gang_types.specs.Values.{wrapped}
use Rattle.gang_model.specs.Debugger.Events.{Row}
use Rattle.gang_model.specs.Texts.InputText.{Receiver, are_values, most_values}
use Rattle.debug_inputs.specs.declared.values.Values.{Values}
use Rattle.debug_inputs.specs.Limited.{limited}

-- the most values that a receiver's row may have, behind these rows
abbrev pub IsMost : Receiver → List Row → ℕ → Type 0
IsMost receiver rows most = most ≡ (if receiver.variable.is_array then most_values receiver rows else 1)

-- what is kept of values: whether there are too many of them, whether each is of the type, and their words
pub record ShowsValues (type : IntType) (most : ℕ) (zs : List ℤ) (values : Values) : Type 0 where
  pub too_many : values.are_too_many ≡ nat_lt most (length zs)
  pub of_type : values.are_of_type ≡ are_values type zs
  pub long : length values.words.items ≡ min most (length zs)
  pub words : nat_lt most (length zs) ≡ false → values.words.items ≡ map (λ z. wrapped type (limited z)) zs

-- what is read of words: their values, or that one is no value
abbrev pub ReadsValues : IntType → ℕ → Option (List ℤ) → Option Values → Type 0
ReadsValues type most None None = Unit {0}
ReadsValues type most (Some zs) (Some values) = ShowsValues type most zs values
ReadsValues type most zs values = ⊥
