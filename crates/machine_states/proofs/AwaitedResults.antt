-- The variable that a call's result is assigned to is there in the frame that made the call, where it is declared before the call.
use Rattle.std.proofs.Common.{◌≡◌, refl, sym, subst, ℕ, suc, List, [], ◌∷◌, length, Some, None, arith}
use Rattle.std.specs.Prelude.{slice_get, drop}
use Rattle.gang_types.specs.declared.places.VarId.{VarId}
use Rattle.gang_types.specs.declared.places.VarId.TheVariants.{File, Local}
use Rattle.gang_model.specs.Types.Tree.{StepNumber, ResultFor, Nothing, Declares, Assigns, Returns, Function, Program}
use Rattle.gang_model.specs.Running.State.{Frame}
use Rattle.mask_states.specs.Masked.{Level, Masked}
use Rattle.machine_states.specs.Variables.{Variables}
use Rattle.machine_states.specs.Awaited.{LevelsHold}
use Rattle.machine_states.specs.Declared.{IsThere, ResultDeclared, HasAll, IsAwaited, FramesDeclared, AreDeclared, declared_before}
use Rattle.machine_states.specs.Regions.{FunctionOf, OfHead, Regions}
use Rattle.machine_states.specs.Shows.{Shows}
use Rattle.machine_states.specs.Steps.{IsInnermost, IsNext, least_in}
use Rattle.machine_states.proofs.AwaitedLevels.{next_holds}
use Rattle.machine_states.proofs.CallerLevels.{caller_is, caller_levels, caller_runs}
use Rattle.machine_states.proofs.NextPoints.{HoldsOnTop, on_top}
use Rattle.machine_states.proofs.TopLevels.{level_of}
use Rattle.machine_states.proofs.WrittenVariables.{HasVariable}
use Rattle.machine_states.proofs.LeaveSteps.{HasResult}

variable_there : (declared : List ℕ) (frame : Frame) (frames : List Frame) (v : VarId) → IsThere declared v → HasAll declared frame.vars → HasVariable (frame ∷ frames) v
variable_there declared frame frames (File k) among all = tt
variable_there declared frame frames (Local k) among all = all k among

result_there : (declared : List ℕ) (frame : Frame) (frames : List Frame) (for : ResultFor) → ResultDeclared declared for → HasAll declared frame.vars → HasResult (frame ∷ frames) for
result_there declared frame frames Nothing among all = tt
result_there declared frame frames (Declares x) among all = tt
result_there declared frame frames (Assigns x) among all = variable_there declared frame frames x.id among all
result_there declared frame frames Returns among all = tt

module _ (p : Program) (variables : Variables) (w : ℕ) (regions : Regions) (masked : Masked) (shows : Shows p variables w regions masked)
    (j level below_level n m : ℕ) (f g : Function) (number : StepNumber) (for : ResultFor) (is_next : IsNext p w regions (suc j) level n f number None)
    (below_runs : regions (OfHead j FunctionOf) ≡ m ∷ []) (is_below : slice_get p.functions m ≡ Some g) (inner : IsInnermost w regions j g below_level)
    (among : ResultDeclared (declared_before variables m g (least_in regions j g below_level)) for) where
  abbrev HasBelow : List Frame → List (List Level) → (index : ℕ) → Type 0
  HasBelow frames levels index = index ≡ suc j → FramesDeclared variables p frames levels → HasResult (drop 1 frames) for

  has_below : HoldsOnTop p variables w regions (suc j) level n f number None is_next (λ frames levels index k. HasBelow frames levels index)
  has_below frame [] turns lower rest runs at top s index all = absurd (omega (arith, index))
  has_below frame (below ∷ frames) turns lower [] runs at top s index all = absurd s.2
  has_below frame (below ∷ frames) turns lower (levels ∷ rest) runs at top s index all =
      let here : length frames ≡ j = omega (arith, index) in
      let runs_m : below.function ≡ m = caller_runs p variables w regions j below_level m g below_runs is_below inner (length frames) below levels here s.2.0 in
      let is : slice_get p.functions below.function ≡ Some g = caller_is p variables w regions j below_level m g below_runs is_below inner (length frames) below levels here s.2.0 in
      let caller = caller_levels p variables w regions j below_level m g below_runs is_below inner (length frames) below levels here s.2.0 in
      let Awaited : ℕ → StepNumber → Type 0 = IsAwaited variables below.function g below.vars in
      let caller_top : Level = level_of regions j g below_level caller.turns in
      let holds : LevelsHold Awaited g (caller_top ∷ caller.under) = subst (LevelsHold Awaited g) caller.levels_are (all.1.0 g is) in
      result_there (declared_before variables below.function g (least_in regions j g below_level)) below frames for
      (subst (λ k. ResultDeclared (declared_before variables k g (least_in regions j g below_level)) for) (sym runs_m) among)
      (next_holds (Awaited (length caller.under)) caller_top holds.0).has_all

  -- the frame that made the call has what the result is for
  pub has_result : AreDeclared variables p masked → HasResult (drop 1 masked.state.frames) for
  has_result all = on_top p variables w regions (suc j) level n f number None is_next (λ frames levels index k. HasBelow frames levels index) has_below masked shows refl all
