-- The tokens of a source, without where they lie in memory.
use Rattle.std.specs.Prelude.{ℕ, Bool, List}
use Rattle.gang_types.specs.declared.places.Place.{Place}
use Rattle.gang_model.specs.declared.marks.Mark.{Mark}

-- a name with its bytes, a number with its value and suffix, a mark or a reserved word
pub data Sort : Type 0 where
  named : List ℕ → Sort
  numbered : (value : ℕ) → (is_unsigned is_long : Bool) → Sort
  marked : Mark → Sort

-- a token: the bytes from start up to end, and where it begins
pub record Lexeme : Type 0 where
  pub sort : Sort
  pub start : ℕ
  pub end : ℕ
  pub place : Place
