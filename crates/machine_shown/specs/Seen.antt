-- What a debugger sees of a masked state, and what it sets.
use Rattle.std.specs.Prelude.{◌≡◌, ◌⊎◌, ℕ, false, length, Option, Some, None, slice_get}
use Rattle.gang_types.specs.declared.masks.Mask.{Mask}
use Rattle.gang_types.specs.declared.places.Spot.{Spot}
use Rattle.gang_types.specs.Masks.{lanes_of}
use Rattle.gang_model.specs.Types.Tree.{Variable, Standing, Function}
use Rattle.gang_model.specs.Debugger.Debugger.{bad_part, shown_words}
use Rattle.gang_model.specs.Debugger.Positions.{spot_in}
use Rattle.debug_traits.specs.declared.machine.Position.{Position}
use Rattle.debug_traits.specs.Frames.{state_at}
use Rattle.mask_states.specs.Masked.{Masked, masked_lanes, masked_spot}
use Rattle.frame_steps.specs.declared.compiled.CompiledProgram.{CompiledProgram}
use Rattle.frame_steps.specs.Compiled.{function_of, variables_of}
use Rattle.machine_shown.specs.Frames.{masked_spot_at}

-- a step of a function stands so in the source
pub record StandsAt (compiled : CompiledProgram) (function number : ℕ) (f : Function) (standing : Standing) : Type 0 where
  pub is_function : function_of compiled function ≡ Some f
  pub stands : slice_get f.standings number ≡ Some standing

-- a step of a function as a position, at a depth and with these lanes; none where there is no such step
abbrev pub IsStandingOf : (width : ℕ) → Function → (number depth : ℕ) → Mask → Option Position → Type 0
IsStandingOf width f number depth lanes None = slice_get f.standings number ≡ None
IsStandingOf width f number depth lanes (Some p) =
    (standing : Standing) × (slice_get f.standings number ≡ Some standing) × (p.place ≡ standing.place) × (p.function.now ≡ f.name)
    × (p.depth ≡ depth) × (p.width ≡ width) × (p.lanes ≡ lanes)

-- where the program stands: none once it has ended
abbrev pub IsPositionOf : (width : ℕ) → CompiledProgram → Masked → Option Position → Type 0
IsPositionOf width compiled masked None = masked_spot masked ≡ None
IsPositionOf width compiled masked (Some p) =
    (function : ℕ) × (number : ℕ) × (f : Function) × (standing : Standing) × (masked_spot masked ≡ Some (spot_in function number))
    × StandsAt compiled function number f standing × (p.place ≡ standing.place) × (p.function.now ≡ f.name)
    × (p.depth ≡ length masked.state.frames) × (p.width ≡ width) × (lanes_of width p.lanes ≡ masked_lanes masked)

-- a variable is in scope at a step of a function
abbrev pub IsInScopeOf : CompiledProgram → Option Spot → Variable → Type 0
IsInScopeOf compiled spot v = (function : ℕ) × (number : ℕ) × (f : Function) × (standing : Standing) × (spot ≡ Some (spot_in function number))
    × StandsAt compiled function number f standing × (k : ℕ) × (slice_get standing.scope k ≡ Some v)

-- a variable is in scope there, or is one of the file
abbrev pub IsSeenOf : CompiledProgram → Option Spot → Variable → Type 0
IsSeenOf compiled spot v = IsInScopeOf compiled spot v ⊎ ((k : ℕ) × (slice_get (variables_of compiled).file k ≡ Some v))

-- a variable is in scope where the program stands
abbrev pub IsInScope : CompiledProgram → Masked → Variable → Type 0
IsInScope compiled masked v = IsInScopeOf compiled (masked_spot masked) v

-- a variable is in scope where the program stands, or is one of the file
abbrev pub IsSeen : CompiledProgram → Masked → Variable → Type 0
IsSeen compiled masked v = IsSeenOf compiled (masked_spot masked) v

-- a variable is in scope where the frame at a depth stands, or is one of the file
abbrev pub IsSeenAt : CompiledProgram → (depth : ℕ) → Masked → Variable → Type 0
IsSeenAt compiled deep masked v = IsSeenOf compiled (masked_spot_at deep masked) v

-- what can be set of a variable: a whole scalar, a lane of a varying one, or an element that is there
abbrev pub IsPartOf : Masked → Variable → Option ℕ → Type 0
IsPartOf masked v part = bad_part false part v.is_array v.rate (length (shown_words masked.state v)) ≡ None

-- the same of a variable in the frame at a depth
abbrev pub IsPartAt : (depth : ℕ) → Masked → Variable → Option ℕ → Type 0
IsPartAt deep masked v part = bad_part false part v.is_array v.rate (length (shown_words (state_at deep masked.state) v)) ≡ None
