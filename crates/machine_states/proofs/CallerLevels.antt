-- The frame below the top one made its call: where its lanes wait.
use Rattle.std.proofs.Common.{◌≡◌, refl, sym, ap, ◌∙◌, subst, ℕ, suc, ◌<◌, false, List, [], ◌∷◌, length, Option, Some, arith}
use Rattle.std.specs.Prelude.{slice_get}
use Rattle.gang_types.specs.Lanes.{no_lane}
use Rattle.gang_types.specs.LaneLaws.{some_lane}
use Rattle.gang_model.specs.Running.Rounds.{Turn}
use Rattle.gang_model.specs.Running.State.{Frame}
use Rattle.gang_model.specs.Types.Tree.{StepNumber, Arg, ResultFor, Function, Program}
use Rattle.mask_states.specs.Points.{Point, Enter, points_in}
use Rattle.mask_states.specs.Placed.{HasPoint}
use Rattle.mask_states.specs.Masked.{Level, Masked}
use Rattle.mask_states.specs.MaskedStep.{points_at}
use Rattle.machine_states.specs.Variables.{Variables}
use Rattle.machine_states.specs.Regions.{FunctionOf, NumbersOf, OfHead, OfLevel, Regions}
use Rattle.machine_states.specs.Shows.{ShowsFrame, ShowsCall, Shows}
use Rattle.machine_states.specs.Steps.{IsInnermost, IsNext, end_in, least_in, waiting_in}
use Rattle.machine_states.proofs.AwaitedLevels.{waits_below}
use Rattle.machine_states.proofs.NextPoints.{HoldsOnTop, same_word, levels_are, on_top}
use Rattle.machine_states.proofs.TopLevels.{IsTop, below_end, level_of, numbers_long}

-- ---- a frame of this index

-- the innermost level, in which the lanes of a call wait, and those below it
pub record CallerLevels (w : ℕ) (regions : Regions) (j level : ℕ) (g : Function) (levels : List Level) : Type 0 where
  pub turns : List Turn
  pub under : List Level
  pub levels_are : levels ≡ level_of regions j g level turns ∷ under
  pub top : IsTop w regions j g level turns under

module _ (p : Program) (variables : Variables) (w : ℕ) (regions : Regions) (j level m : ℕ) (g : Function)
    (number : regions (OfHead j FunctionOf) ≡ m ∷ []) (is_function : slice_get p.functions m ≡ Some g) (inner : IsInnermost w regions j g level)
    (index : ℕ) (frame : Frame) (levels : List Level) (here : index ≡ j) (shown : ShowsFrame p variables w regions index frame levels) where
  pub caller_runs : frame.function ≡ m
  caller_runs = same_word (regions (OfHead j FunctionOf)) frame.function m (ap (λ k. regions (OfHead k FunctionOf)) (sym here) ∙ shown.number) number

  pub caller_is : slice_get p.functions frame.function ≡ Some g
  caller_is = ap (slice_get p.functions) caller_runs ∙ is_function

  pub caller_levels : CallerLevels w regions j level g levels
  caller_levels =
      let found = levels_are p variables w regions j frame levels g level (subst (λ k. ShowsFrame p variables w regions k frame levels) here shown) caller_is inner in
      record { turns = found.0; under = found.1; levels_are = found.2; top = found.3 }

-- ---- the frame below the top one

-- the next step of a frame that runs g, in this level of it, is a call
pub record IsCalling (w : ℕ) (regions : Regions) (j level : ℕ) (g : Function) : Type 0 where
  pub called : ℕ
  pub args : List Arg
  pub for : ResultFor
  pub next : StepNumber
  pub calls : HasPoint (points_in g) (least_in regions j g level) (Enter called args for next)
  pub waited : least_in regions j g level < end_in regions j g level
  pub sized : length (regions (OfLevel j level NumbersOf)) ≡ w

-- lanes wait for it
pub some_calling : (w : ℕ) (regions : Regions) (j level : ℕ) (g : Function) → IsCalling w regions j level g → no_lane (waiting_in regions j level (least_in regions j g level)) ≡ false
some_calling w regions j level g calling =
    let waits = waits_below (level_of regions j g level []) calling.waited in some_lane (waiting_in regions j level (least_in regions j g level)) waits.lane waits.waiting

module _ (p : Program) (variables : Variables) (w : ℕ) (regions : Regions) (masked : Masked) (shows : Shows p variables w regions masked)
    (j level n : ℕ) (f : Function) (number : StepNumber) (point : Option Point) (is_next : IsNext p w regions (suc j) level n f number point)
    (m below_level : ℕ) (g : Function) (runs_m : regions (OfHead j FunctionOf) ≡ m ∷ []) (is_g : slice_get p.functions m ≡ Some g) (inner : IsInnermost w regions j g below_level) where
  calls_at : HoldsOnTop p variables w regions (suc j) level n f number point is_next (λ frames levels index least. index ≡ suc j → IsCalling w regions j below_level g)
  calls_at frame [] turns lower rest runs at top s index = absurd (omega (arith, index))
  calls_at frame (below ∷ frames) turns lower [] runs at top s index = absurd s.2
  calls_at frame (below ∷ frames) turns lower (levels ∷ rest) runs at top s index =
      let here : length frames ≡ j = omega (arith, index) in
      let caller = caller_levels p variables w regions j below_level m g runs_m is_g inner (length frames) below levels here s.2.0 in
      let is : slice_get p.functions below.function ≡ Some g = caller_is p variables w regions j below_level m g runs_m is_g inner (length frames) below levels here s.2.0 in
      let call : ShowsCall p frame (below ∷ frames) ((level_of regions j g below_level caller.turns ∷ caller.under) ∷ rest) =
      subst (λ ls. ShowsCall p frame (below ∷ frames) (ls ∷ rest)) caller.levels_are s.1 in
      let calls : HasPoint (points_in g) (least_in regions j g below_level) (Enter frame.function call.1 frame.result_for call.0) =
      ap (λ o. slice_get (points_at o) (least_in regions j g below_level)) (sym is) ∙ call.3 in
      record {
        called = frame.function;
        args = call.1;
        for = frame.result_for;
        next = call.0;
        calls = calls;
        waited = below_end w regions j g below_level caller.turns caller.under caller.top (Enter frame.function call.1 frame.result_for call.0) tt calls;
        sized = numbers_long w regions j g below_level caller.turns caller.under caller.top;
      }

  -- it made the call
  pub calling_below : IsCalling w regions j below_level g
  calling_below = on_top p variables w regions (suc j) level n f number point is_next (λ frames levels index least. index ≡ suc j → IsCalling w regions j below_level g) calls_at masked shows refl
