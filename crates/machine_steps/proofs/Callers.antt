-- The call that the lanes of a frame wait in, and the lanes of the call that made the top frame.
use Rattle.std.proofs.Common.{ℕ, ◌<◌, ◌≡◌, refl, sym, ◌∙◌, ap, false, List, length}
use Rattle.std.specs.Prelude.{Option}
use Rattle.std.proofs.lemmas.Option.{slice_get_within}
use Rattle.gang_types.specs.Lanes.{no_lane}
use Rattle.gang_model.specs.Types.Tree.{Arg, Function, Program, ResultFor, StepNumber}
use Rattle.gang_model.specs.Running.State.{Frame}
use Rattle.gang_model.specs.Running.RunningOrder.{IsNumberedProgram}
use Rattle.mask_states.specs.Points.{Enter, Point, points_in}
use Rattle.mask_states.specs.Masked.{Level, Masked}
use Rattle.machine_states.specs.Declared.{AreDeclaredFirst, ResultDeclared, declared_before}
use Rattle.machine_states.specs.WellScoped.{IsWellScopedProgram, ResultWellScoped}
use Rattle.machine_states.specs.Regions.{LanesOf, OfHead, Regions, lanes_in}
use Rattle.machine_states.specs.Shows.{Shows}
use Rattle.machine_states.specs.Steps.{IsNext, least_in}
use Rattle.machine_states.specs.Variables.{Variables}
use Rattle.machine_states.proofs.DeclaredNames.{point_names}
use Rattle.machine_states.proofs.NextPoints.{on_top}
use Rattle.machine_states.proofs.WellScopedPoints.{point_at, points_in-well_scoped}
use Rattle.typed_tree.specs.declared.statements.ResultFor.{ResultFor as TypedResultFor}
use Rattle.codegen.specs.declared.code.StepCode.{StepCode}
use Rattle.codegen.specs.declared.code.StepCode.TheVariants as code
use Rattle.codegen.specs.Codes.{Does}
use Rattle.frame_steps.specs.Standing.{HaveLanes}
use Rattle.machine_steps.specs.Leaving.{IsAtCall}

-- ---- the lanes of the call that made a frame

module _ (p : Program) (variables : Variables) (w : ℕ) (regions : Regions) (masked : Masked) (shows : Shows p variables w regions masked)
    (i level n : ℕ) (f : Function) (number : StepNumber) (point : Option Point) (is_next : IsNext p w regions i level n f number point) where
  abbrev HasLanes : List Frame → List (List Level) → (index : ℕ) → StepNumber → Type 0
  HasLanes frames levels index least_number = HaveLanes frames → no_lane (lanes_in w regions (OfHead index LanesOf)) ≡ false

  -- some lane made it
  pub some_called : HaveLanes masked.state.frames → no_lane (lanes_in w regions (OfHead i LanesOf)) ≡ false
  some_called = on_top p variables w regions i level n f number point is_next HasLanes
      (λ frame frames turns below rest runs is_at top s have. ap no_lane (sym s.0.lanes) ∙ have.0) masked shows

-- ---- the call

module _ (p : Program) (w : ℕ) (regions : Regions) (frame level n : ℕ) (g : Function) (for : ResultFor) (next : StepNumber) (call : IsAtCall p w regions frame level n g for next) where
  pub call_within : least_in regions frame g level < length (points_in g)
  call_within = slice_get_within (points_in g) (least_in regions frame g level) (Enter call.called call.args for next) call.calls

  -- the frame has the variable that its result is for
  pub call_well_scoped : (variables : Variables) (most : ℕ) → IsWellScopedProgram variables most p → ResultWellScoped variables n for
  call_well_scoped variables most well_scoped =
      (point_at variables n (points_in g) (least_in regions frame g level) (Enter call.called call.args for next)
      (points_in-well_scoped variables n g (well_scoped.functions n g call.is_function)) call.calls).1

  -- which is declared, if it is assigned to
  pub call_declared : (variables : Variables) → IsNumberedProgram p → AreDeclaredFirst variables p → ResultDeclared (declared_before variables n g (least_in regions frame g level)) for
  call_declared variables numbered first =
      (point_names variables n g (numbered n g call.is_function) (first n g call.is_function) (least_in regions frame g level)
      (Enter call.called call.args for next) call.calls).1

-- only a call's code does a call
pub only_enters : (made : StepCode) (called : ℕ) (args : List Arg) (for : ResultFor) (next : StepNumber) → Does made (Enter called args for next)
    → ((function : ℕ) (given : _) (result_for : TypedResultFor) (then : ℕ) → made ≡ code.Enter function given result_for then → ⊥) → ⊥
only_enters (code.Enter function given result_for then) called args for next does other = other function given result_for then refl
only_enters made called args for next does other = does
