-- What one of the frames shows. The entry's frame is at depth 1, the top one at the depth of the program.
use Rattle.std.specs.Prelude.{◌≡◌, ℕ, ◌⊎◌, not, List, [], ◌∷◌, filter, length, Option, Some, None, Result, Ok, Err}
use Rattle.gang_model.specs.Types.Tree.{Program, Variable}
use Rattle.gang_model.specs.Running.State.{State}
use Rattle.gang_model.specs.Debugger.Events.{InFrame, Poke}
use Rattle.gang_model.specs.Debugger.Debugger.{Debugger, Setting, moved, now, poked_by, shown_words}
use Rattle.debug_traits.specs.declared.machine.NamedVariable.{NamedVariable}
use Rattle.debug_traits.specs.declared.machine.NextLocal.{NextLocal}
use Rattle.debug_traits.specs.declared.machine.Shown.{Shown}
use Rattle.debug_traits.specs.Machines.{IsOneOf, file_variables}
pub use Rattle.gang_model.specs.Debugger.Frames.{frames_at, scope_at, spot_at, state_at}
pub use Rattle.gang_model.specs.Debugger.Debugger.{found_at}

-- the local variables in scope in the frame at a depth, without the parameters
abbrev pub listed_at : Setting → Debugger → (depth : ℕ) → List Variable
listed_at s d deep = filter (λ v. not v.is_parameter) (scope_at s.program deep (now s d))

-- the parameters in scope in the frame at a depth
abbrev pub listed_parameters_at : Setting → Debugger → (depth : ℕ) → List Variable
listed_parameters_at s d deep = filter (λ v. v.is_parameter) (scope_at s.program deep (now s d))

-- a variable in scope in the frame at a depth or of the file, and what can be shown of it there
pub record IsShownAt (s : Setting) (d : Debugger) (deep : ℕ) (v : Variable) (shown : Shown) : Type 0 where
  pub there : IsOneOf (scope_at s.program deep (now s d)) v ⊎ IsOneOf (file_variables s) v
  pub id : v.id ≡ shown.id
  pub type : v.type ≡ shown.value_type
  pub rate : v.rate ≡ shown.rate
  pub is_array : v.is_array ≡ shown.is_array
  pub is_constant : v.is_constant ≡ shown.is_constant
  pub count : length (shown_words (state_at deep (now s d)) v) ≡ shown.count

-- the variable of a name in scope in the frame at a depth, else at file scope; none where the name stands for nothing
abbrev pub FindsAt : Setting → Debugger → (depth : ℕ) → List ℕ → Option Shown → Type 0
FindsAt s d deep name None = found_at s.program deep (now s d) name ≡ None
FindsAt s d deep name (Some shown) = (v : Variable) × (found_at s.program deep (now s d) name ≡ Some v) × IsShownAt s d deep v shown

-- a variable is told by its name with what can be shown of it in the frame at a depth
abbrev pub ShowsNamedAt : Setting → Debugger → (depth : ℕ) → Variable → NamedVariable → Type 0
ShowsNamedAt s d deep v given = (given.name.now ≡ v.name) × IsShownAt s d deep v given.shown

-- the first of the variables from a place on is told by its name, with the place from which on the others are; or there is none
abbrev pub ShowsNextAt : Setting → Debugger → (depth : ℕ) → (from : ℕ → List Variable) → (place : ℕ) → Option NextLocal → Type 0
ShowsNextAt s d deep from place None = from place ≡ []
ShowsNextAt s d deep from place (Some local) = (v : Variable) × (from place ≡ v ∷ from local.next) × ShowsNamedAt s d deep v local.variable

-- a value was set in the frame at a depth and recorded; or there was no memory for it, and nothing changed
abbrev pub PokesAtOrNot : {M X E : Type 0} → (M → Setting → Debugger → Type 0) → Setting → Debugger → (depth : ℕ) → Variable → Option ℕ → (word : ℕ) → Result X E → M → Type 0
PokesAtOrNot stands s d deep v at word (Ok done) new = stands new s (moved (Poke (InFrame deep (poked_by v at)) word) d)
PokesAtOrNot stands s d deep v at word (Err memory) new = stands new s d
