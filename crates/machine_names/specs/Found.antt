-- What is shown of a variable that is found.
use Rattle.std.specs.Prelude.{◌≡◌, ℕ, false, List, Option, Some, None, map, slice_get}
use Rattle.debug_traits.specs.declared.machine.NamedVariable.{NamedVariable}
use Rattle.debug_traits.specs.declared.machine.Shown.{Shown}
use Rattle.gang_model.specs.Source.Names.{named}
use Rattle.gang_model.specs.Types.Tree.{Variable}
use Rattle.gang_model.specs.Running.State.{words_for}
use Rattle.typed_tree.specs.declared.program.Global.{Global as TreeGlobal}
use Rattle.typed_tree.specs.Views.{global_view}

-- the variables of the file
abbrev pub file_variables : List TreeGlobal → List Variable
file_variables globals = map (λ g. g.variable) (map global_view globals)

-- what is shown is the variable, with its type, and of a scalar as many words as its rate says; how many elements an array has is not
-- told by the program alone
pub record IsSeen (width : ℕ) (v : Variable) (shown : Shown) : Type 0 where
  pub id : v.id ≡ shown.id
  pub type : v.type ≡ shown.value_type
  pub rate : v.rate ≡ shown.rate
  pub is_array : v.is_array ≡ shown.is_array
  pub is_constant : v.is_constant ≡ shown.is_constant
  pub count : v.is_array ≡ false → words_for width v.rate ≡ shown.count

-- a variable by its name
pub record IsNamed (width : ℕ) (v : Variable) (given : NamedVariable) : Type 0 where
  pub name : given.name.now ≡ v.name
  pub seen : IsSeen width v given.shown

-- a variable was found and is shown, or none was found
abbrev pub SeesFound : (width : ℕ) → Option Variable → Option Shown → Type 0
SeesFound width None None = Unit {0}
SeesFound width (Some v) (Some shown) = IsSeen width v shown
SeesFound width v shown = ⊥

-- a variable is there and is given by its name, or there is none
abbrev pub SeesNamed : (width : ℕ) → Option Variable → Option NamedVariable → Type 0
SeesNamed width None None = Unit {0}
SeesNamed width (Some v) (Some given) = IsNamed width v given
SeesNamed width v given = ⊥

-- the number of the first variable of a name, if there is one
abbrev pub FindsNumber : List Variable → List ℕ → Option ℕ → Type 0
FindsNumber variables name None = named name variables ≡ None
FindsNumber variables name (Some number) = (v : Variable) × (named name variables ≡ Some v) × (slice_get variables number ≡ Some v)
