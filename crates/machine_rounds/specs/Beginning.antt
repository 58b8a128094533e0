-- What a foreach form keeps when it begins, as the code computes it, and what is written then.
use Rattle.std.specs.Prelude.{◌≡◌, ℕ, List, [], ◌∷◌, replicate, slice_get, Option, Some, None, Result, Ok, Err}
use Rattle.gang_types.specs.Lanes.{Lanes, lowest}
use Rattle.gang_types.specs.Masks.{lanes_of}
use Rattle.gang_model.specs.Types.Tree.{StepNumber, Dimension, RoundsOf, Function}
use Rattle.gang_model.specs.Running.Lanes.{Fault as ModelFault, ◌>>=◌, at}
use Rattle.gang_model.specs.Running.State.{State}
use Rattle.gang_model.specs.Running.Value.{value}
use Rattle.debug_traits.specs.declared.machine.Fault.{Fault}
use Rattle.debug_traits.specs.Machines.{fault_view}
use Rattle.mask_states.specs.Points.{Begin}
use Rattle.foreach_lowering.specs.declared.bounds.Order.{Order}
use Rattle.foreach_lowering.specs.DomainViews.{grid_by}
use Rattle.foreach_lowering.specs.Kept.{Kept, kept_of}
use Rattle.machine_states.specs.Levels.{bounds_in, kept_domain, kept_in}
use Rattle.machine_states.specs.Effects.{begun_in, sent_on}
use Rattle.machine_states.specs.Regions.{Regions}
use Rattle.codegen.specs.Codes.{DoesForm, Fit}
use Rattle.codegen.specs.declared.code.DimensionCode.{DimensionCode}
use Rattle.codegen.specs.declared.code.FormCode.{FormCode}
use Rattle.frame_steps.specs.declared.active.Active.{Active}
use Rattle.frame_steps.specs.declared.compiled.CompiledProgram.{CompiledProgram}
use Rattle.frame_steps.specs.Standing.{IsActive, IsValueAt}
use Rattle.machine_rounds.specs.declared.beginning.FirstWords.{FirstWords}

-- ---- what is computed

-- the next step is the head of this form, with this code
pub record BeginsForm (width : ℕ) (compiled : CompiledProgram) (regions : Regions) (active : Active) (code : FormCode) (form : RoundsOf) : Type 0 where
  pub f : Function
  pub rounds : StepNumber
  pub next : StepNumber
  pub does : DoesForm code form
  pub is_active : IsActive width compiled regions active f (Some (Begin form rounds next))

-- the code computes both bounds of a dimension of the next step
abbrev pub IsBoundsCode : (width : ℕ) → CompiledProgram → Regions → Active → DimensionCode → Dimension → Type 0
IsBoundsCode width compiled regions active code d =
    IsValueAt width compiled regions active d.low code.low.items × IsValueAt width compiled regions active d.high code.high.items

-- of each
abbrev pub AreDimensionsAt : (width : ℕ) → CompiledProgram → Regions → Active → List DimensionCode → List Dimension → Type 0
AreDimensionsAt width compiled regions active codes ds = Fit (IsBoundsCode width compiled regions active) codes ds

-- the words of a dimension's bounds are those of the lowest lane; 0 where there is no dimension
abbrev pub bounds_at : Option Dimension → Lanes → State → Result (ℕ × ℕ) ModelFault
bounds_at None lanes state = Ok (0, 0)
bounds_at (Some d) lanes state = do
  low ← value d.low lanes state
  high ← value d.high lanes state
  Ok (at low (lowest lanes), at high (lowest lanes))

-- those of three dimensions, one behind the other
abbrev pub bounds_words : List Dimension → Lanes → State → Result (List ℕ) ModelFault
bounds_words ds lanes state = do
  first ← bounds_at (slice_get ds 0) lanes state
  second ← bounds_at (slice_get ds 1) lanes state
  third ← bounds_at (slice_get ds 2) lanes state
  Ok (first.0 ∷ first.1 ∷ second.0 ∷ second.1 ∷ third.0 ∷ third.1 ∷ [])

-- counters that keep a domain with these bounds, of which all rounds are left
abbrev pub KeepsDomain : (width : ℕ) → Order → List Dimension → (bounds counters : List ℕ) → Type 0
KeepsDomain width order ds bounds counters = kept_domain ds counters ≡ kept_of (bounds_in ds bounds) (grid_by order width (bounds_in ds bounds))

-- the words keep what the form keeps when it begins; or its head has this fault
abbrev pub IsFirst : (width : ℕ) → RoundsOf → Result (FirstWords width) Fault → Result Kept ModelFault → Type 0
IsFirst width form (Ok first) meant = meant ≡ Ok (kept_in width form (record { end = []; numbers = []; counters = first.counters; values = first.values }))
IsFirst width form (Err fault) meant = meant ≡ Err (fault_view fault)

-- ---- what is written

-- a form begins in the level above that of the next step, whose lanes go on behind it
abbrev pub opened_in : (width : ℕ) → Active → (rounds next : ℕ) → FirstWords width → Regions → Regions
opened_in width active rounds next first regions =
    begun_in active.frame active.level rounds (replicate width rounds) first.counters first.values
    (sent_on active.frame active.level (lanes_of width active.lanes) (λ k. next) regions)
