-- The variables of a program, by their numbers.
use Rattle.std.specs.Prelude.{◌≡◌, ℕ, Bool, true, false, List, [], Option, Some, None, slice_get, slice_index}
use Rattle.gang_types.specs.declared.types.Rate.{Rate}
use Rattle.gang_types.specs.declared.types.Rate.TheVariants.{Uniform}
use Rattle.gang_types.specs.declared.places.VarId.{VarId}
use Rattle.gang_types.specs.declared.places.VarId.TheVariants.{File, Local}
use Rattle.gang_model.specs.Types.Tree.{Var, Variable}
use Rattle.gang_model.specs.Types.Typing.{var_of}

-- those of the file, those of each function, and how many of these are its parameters, which come first
pub record Variables : Type 0 where
  pub file : List Variable
  pub own : List (List Variable)
  pub parameters : List ℕ

abbrev pub or_none : Option (List Variable) → List Variable
or_none None = []
or_none (Some variables) = variables

-- those of a function, none where there is no such function
abbrev pub own_of : Variables → (function : ℕ) → List Variable
own_of variables function = or_none (slice_get variables.own function)

-- how many parameters a function has
abbrev pub parameters_of : Variables → (function : ℕ) → ℕ
parameters_of variables function = slice_index variables.parameters function

-- the variable that this is in a function
abbrev pub variable_of : Variables → (function : ℕ) → VarId → Option Variable
variable_of variables function (File k) = slice_get variables.file k
variable_of variables function (Local k) = slice_get (own_of variables function) k

-- the rate of a variable, uniform where there is no such variable
abbrev pub rate_of : Option Variable → Rate
rate_of None = Uniform
rate_of (Some v) = v.rate

-- whether a variable is an array, not so where there is no such variable
abbrev pub is_array_of : Option Variable → Bool
is_array_of None = false
is_array_of (Some v) = v.is_array

-- an array is one of the function's or the file's
abbrev pub IsArray : Variables → (function : ℕ) → VarId → Type 0
IsArray variables function id = (v : Variable) × (variable_of variables function id ≡ Some v) × (v.is_array ≡ true)

-- a scalar variable is one of the function's or the file's, with its type and rate
abbrev pub IsScalar : Variables → (function : ℕ) → Var → Type 0
IsScalar variables function x = (v : Variable) × (variable_of variables function x.id ≡ Some v) × (v.is_array ≡ false) × (x ≡ var_of v)

-- an array that has this number in the function
pub record IsOwnArray (variables : Variables) (function k : ℕ) (id : VarId) : Type 0 where
  pub is_local : id ≡ Local k
  pub array : is_array_of (slice_get (own_of variables function) k) ≡ true

-- a scalar that has this number in the function
pub record IsOwn (variables : Variables) (function k : ℕ) (x : Var) : Type 0 where
  pub id : x.id ≡ Local k
  pub scalar : IsScalar variables function x
