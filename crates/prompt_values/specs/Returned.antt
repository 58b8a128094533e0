-- The value that a function has returned: what its call gives to a variable.
use Rattle.std.specs.Prelude.{◌≡◌, ⊤, ◌⊎◌, ℕ, ◌-◌, Bool, true, false, List, [], ◌++◌, codes, Option, Some, None, option_and_then, option_map, slice_get, take}
use Rattle.gang_types.specs.declared.masks.Mask.{Mask}
use Rattle.gang_types.specs.declared.places.Spot.{Spot}
use Rattle.gang_types.specs.declared.places.VarId.{VarId}
use Rattle.gang_types.specs.declared.places.VarId.TheVariants as var
use Rattle.gang_types.specs.Lanes.{Lanes}
use Rattle.gang_types.specs.Masks.{lanes_of}
use Rattle.gang_model.specs.Types.Tree.{Program, Variable}
use Rattle.gang_model.specs.Texts.Text.{Bytes}
use Rattle.typed_tree.specs.declared.program.Program as declared
use Rattle.typed_tree.specs.Views.{program_view}
use Rattle.debug_traits.specs.declared.machine.Position.{Position}
use Rattle.gang_model.specs.Running.State.{State}
use Rattle.gang_model.specs.Debugger.Debugger.{Command, Debugger, DoFinish, Setting, depth, now, shown_words}
use Rattle.debug_traits.specs.declared.machine.Shown.{Shown}
use Rattle.debug_traits.specs.Frames.{IsShownAt, found_at, spot_at, state_at}
use Rattle.debug_traits.specs.Machines.{call_text, position_line}
use Rattle.call_results.specs.Calls.{given_at}
use Rattle.call_results.specs.declared.given.GivenResult.{GivenResult}
use Rattle.prompt_texts.specs.declared.items.Layout.{Layout}
use Rattle.prompt_texts.specs.declared.told.Told.{Told}
use Rattle.value_digits.specs.declared.digits.Digits.TheVariants as in_digits
use Rattle.prompt_texts.specs.Items.{Tells, is_of_lanes, told_text}
use Rattle.prompt_values.specs.declared.returned.Awaited.{Awaited}
use Rattle.prompt_values.specs.Printed.{no_memory}

-- what is given to a variable by the call at which the frame at a depth stands
abbrev pub awaited_at : Program → (depth : ℕ) → State → Option GivenResult
awaited_at p deep state = option_and_then (given_at p) (spot_at p deep state)

-- lanes are those of a place, if there is one
abbrev pub AreOf : Option Position → Mask → Type 0
AreOf None lanes = ⊤
AreOf (Some place) lanes = lanes ≡ place.lanes

-- the lanes of the call that the frame at a depth made, by its place as it is told
pub record AreCalled (s : Setting) (d : Debugger) (deep : ℕ) (lanes : Mask) : Type 0 where
  pub place : Option Position
  pub told : call_text s.program deep (now s d).frames ≡ position_line place
  pub are : AreOf place lanes

-- what the call gives at which the frame at a depth stands: the function that made it, its lanes, the variable and the type
pub record IsAwaited (s : Setting) (d : Debugger) (deep : ℕ) (awaited : Awaited) : Type 0 where
  pub spot : Spot
  pub stands : spot_at s.program deep (now s d) ≡ Some spot
  pub caller : awaited.caller ≡ spot.function.0
  pub given : given_at s.program spot ≡ Some awaited.given
  pub lanes : AreCalled s d deep awaited.lanes

-- the same, or nothing is given there to a variable
abbrev pub AwaitsAt : Setting → Debugger → (depth : ℕ) → Option Awaited → Type 0
AwaitsAt s d deep None = awaited_at s.program deep (now s d) ≡ None
AwaitsAt s d deep (Some awaited) = IsAwaited s d deep awaited

-- what is given to a variable where a command leaves the top frame: `finish` alone does
abbrev pub AwaitsBy : Setting → Debugger → Command → Option Awaited → Type 0
AwaitsBy s d DoFinish awaited = AwaitsAt s d (depth (now s d) - 1) awaited
AwaitsBy s d command awaited = awaited ≡ None

-- a scalar that gets a result of its type
pub record Gets (given : GivenResult) (shown : Shown) : Type 0 where
  pub scalar : shown.is_array ≡ false
  pub id : shown.id ≡ given.variable
  pub type : shown.value_type ≡ given.value_type

-- what is told of a result: the words of the variable that got it, where those lanes wait that did not call
pub record TellsResult (s : Setting) (d : Debugger) (deep : ℕ) (given : GivenResult) (lanes : Lanes) (layout : Layout) (told : Told) : Type 0 where
  pub v : Variable
  pub shown : Shown
  pub there : IsShownAt s d deep v shown
  pub gets : Gets given shown
  pub tells : Tells told shown.value_type layout (is_of_lanes shown.is_array shown.rate) lanes 0 (take shown.count (shown_words (state_at deep (now s d)) v))

-- what is told of a variable of the frame at a depth: what it got, or that it gets no result
abbrev pub IsToldOf : Setting → Debugger → (depth : ℕ) → Awaited → Layout → Shown → Option Told → Type 0
IsToldOf s d deep awaited layout shown None = Gets awaited.given shown → ⊥
IsToldOf s d deep awaited layout shown (Some told) = TellsResult s d deep awaited.given (lanes_of 16 awaited.lanes) layout told

-- what is told by a name: what its variable in that frame or of the file got, or that there is none that gets a result
abbrev pub IsToldBy : Setting → Debugger → (depth : ℕ) → Awaited → Layout → List ℕ → Option Told → Type 0
IsToldBy s d deep awaited layout name None = (v : Variable) (shown : Shown) → found_at s.program deep (now s d) name ≡ Some v → IsShownAt s d deep v shown → Gets awaited.given shown → ⊥
IsToldBy s d deep awaited layout name (Some told) = TellsResult s d deep awaited.given (lanes_of 16 awaited.lanes) layout told

-- the name of a variable of a function or of the file
abbrev pub name_of : declared.Program → (function : ℕ) → VarId → Option (List ℕ)
name_of p function (var.File number) = option_map (λ g. g.variable.name.items) (slice_get p.globals.items number)
name_of p function (var.Local number) = option_and_then (λ f. option_map (λ v. v.name.items) (slice_get f.variables.items number)) (slice_get p.functions.items function)

abbrev pub IsToldIf : Setting → Debugger → (depth : ℕ) → Awaited → Layout → Option (List ℕ) → Option Told → Type 0
IsToldIf s d deep awaited layout None told = told ≡ None
IsToldIf s d deep awaited layout (Some name) told = IsToldBy s d deep awaited layout name told

-- what is told of a result, by the name of the variable that gets it
pub record IsTold (s : Setting) (d : Debugger) (deep : ℕ) (awaited : Awaited) (layout : Layout) (told : Option Told) : Type 0 where
  pub program : declared.Program
  pub is_it : s.program ≡ program_view program
  pub by_name : IsToldIf s d deep awaited layout (name_of program awaited.caller awaited.given.variable) told

-- a line with what is told, if anything is
abbrev pub returned_text : Option Told → Bytes
returned_text None = []
returned_text (Some told) = codes "Value returned:" ++ told_text in_digits.Decimal told

-- what is written of a result, or that there is no memory for it
abbrev pub WritesResult : (puts : Bytes → Type 0) → Setting → Debugger → Awaited → Layout → Type 0
WritesResult puts s d awaited layout = puts no_memory ⊎ ((told : Option Told) × IsTold s d (depth (now s d)) awaited layout told × puts (returned_text told))

-- nothing is written where no result is awaited, or the frame was not left
abbrev pub WritesIf : (puts : Bytes → Type 0) → Setting → Debugger → Option Awaited → (is_left : Bool) → Layout → Type 0
WritesIf puts s d None is_left layout = puts []
WritesIf puts s d (Some awaited) false layout = puts []
WritesIf puts s d (Some awaited) true layout = WritesResult puts s d awaited layout
