-- What the machine reads to find the next step is what the masked step does: the top frame's point, or that it leaves the frame.
use Rattle.std.proofs.Common.{◌≡◌, refl, sym, ap, ◌∙◌, subst, ℕ, suc, List, [], ◌∷◌, length, Option, Some, arith}
use Rattle.std.specs.Prelude.{map, slice_get}
use Rattle.gang_model.specs.Types.Tree.{StepNumber, Function, Program}
use Rattle.gang_model.specs.Running.State.{Store, Frame}
use Rattle.gang_model.specs.Running.Rounds.{Turn}
use Rattle.mask_states.specs.Points.{Point, points_in, closing_number}
use Rattle.mask_states.specs.Masked.{Level, Masked, next_in}
use Rattle.mask_states.specs.MaskedStep.{untasked_frame, points_at, points_for, step_point, step_levels}
use Rattle.machine_states.specs.Levels.{ShowsLevels}
use Rattle.machine_states.specs.Variables.{Variables}
use Rattle.machine_states.specs.Regions.{FunctionOf, OpenOf, Depth, OfHead, Regions}
use Rattle.machine_states.specs.Shows.{level_words, ShowsFrame, ShowsFrames, Shows}
use Rattle.machine_states.specs.Steps.{IsNext, IsInnermost}
use Rattle.machine_states.proofs.TopLevels.{level_of, IsTop, top_is}

-- the one word of a region
pub same_word : (words : List ℕ) (m n : ℕ) → words ≡ m ∷ [] → words ≡ n ∷ [] → m ≡ n
same_word words m n e f = one_word m n (sym e ∙ f)
  where
    one_word : (m n : ℕ) → m ∷ [] ≡ n ∷ [] → m ≡ n
    one_word m n e = cc

pub same_function : (f g : Function) (o : Option Function) → o ≡ Some f → o ≡ Some g → f ≡ g
same_function f g o e h = some_same f g (sym e ∙ h)
  where
    some_same : (f g : Function) → Some f ≡ Some g → f ≡ g
    some_same f g e = cc

module _ (p : Program) (variables : Variables) (w : ℕ) (regions : Regions) where
  -- frames that show have no task
  pub frames_untasked : (frames : List Frame) (levels : List (List Level)) → ShowsFrames p variables w regions frames levels → map untasked_frame frames ≡ frames
  frames_untasked [] levels s = refl
  frames_untasked (frame ∷ frames) [] s = absurd s
  frames_untasked (frame ∷ frames) (levels ∷ rest) s =
      ap (λ tasks. record frame { tasks = tasks } ∷ map untasked_frame frames) (sym s.0.untasked)
      ∙ ap (λ others. frame ∷ others) (frames_untasked frames rest s.2)

  -- a frame's levels are those that its words show of the function that it runs
  pub levels_are : (index : ℕ) (frame : Frame) (levels : List Level) (f : Function) (level : ℕ) → ShowsFrame p variables w regions index frame levels
      → slice_get p.functions frame.function ≡ Some f → IsInnermost w regions index f level
      → (turns : List Turn) × (below : List Level) × (levels ≡ level_of regions index f level turns ∷ below) × IsTop w regions index f level turns below
  levels_are index frame levels f level s is inner =
      top_is w regions index f level levels
      (subst (λ g. ShowsLevels (points_in g) w (level_words regions index) (regions (OfHead index OpenOf)) (closing_number g) levels) (same_function s.function f (slice_get p.functions frame.function) s.is_function is) s.waits)
      inner

  -- the step at a number
  pub point_is : (frame : Frame) (f : Function) → slice_get p.functions frame.function ≡ Some f → (number : StepNumber) (point : Option Point)
      → slice_get (points_in f) number ≡ point → slice_get (points_for p frame.function) number ≡ point
  point_is frame f is number point e = ap (λ o. slice_get (points_at o) number) is ∙ e

  -- the step of the top frame is that of its point
  pub step_is : (memory : Store) (frame : Frame) (frames : List Frame) (top : Level) (below : List Level) (rest : List (List Level)) (f : Function) (point : Option Point)
      → slice_get p.functions frame.function ≡ Some f → slice_get (points_in f) (next_in top) ≡ point
      → step_levels p memory (frame ∷ frames) ((top ∷ below) ∷ rest) ≡ step_point p memory frames frame point top below rest
  step_is memory frame frames top below rest f point is e = ap (λ o. step_point p memory frames frame o top below rest) (point_is frame f is (next_in top) point e)

-- What is proved of a top frame for the least number that lanes wait for in its innermost level holds of the next step.
module _ (p : Program) (variables : Variables) (w : ℕ) (regions : Regions) (i level n : ℕ) (f : Function) (number : StepNumber) (point : Option Point) (next : IsNext p w regions i level n f number point)
    (Q : List Frame → List (List Level) → (index : ℕ) → StepNumber → Type 0) where
  abbrev pub HoldsOnTop : Type 0
  HoldsOnTop = (frame : Frame) (frames : List Frame) (turns : List Turn) (below : List Level) (rest : List (List Level)) → frame.function ≡ n
      → slice_get (points_in f) (next_in (level_of regions (length frames) f level turns)) ≡ point
      → IsTop w regions (length frames) f level turns below
      → ShowsFrames p variables w regions (frame ∷ frames) ((level_of regions (length frames) f level turns ∷ below) ∷ rest)
      → Q (frame ∷ frames) ((level_of regions (length frames) f level turns ∷ below) ∷ rest) (length frames) (next_in (level_of regions (length frames) f level turns))

  on_levels : HoldsOnTop → (frame : Frame) (frames : List Frame) (levels : List Level) (rest : List (List Level)) → length frames ≡ i → frame.function ≡ n
      → ShowsFrames p variables w regions (frame ∷ frames) (levels ∷ rest) → (turns : List Turn) (below : List Level) → levels ≡ level_of regions (length frames) f level turns ∷ below
      → IsTop w regions (length frames) f level turns below → Q (frame ∷ frames) (levels ∷ rest) i number
  on_levels holds frame frames levels rest index runs s turns below same top =
      let least_is : number ≡ next_in (level_of regions (length frames) f level turns) = next.least_number ∙ ap (λ k. next_in (level_of regions k f level turns)) (sym index) in
      subst (λ k. Q (frame ∷ frames) (levels ∷ rest) k number) index
      (subst (λ m. Q (frame ∷ frames) (levels ∷ rest) (length frames) m) (sym least_is)
      (subst (λ ls. Q (frame ∷ frames) (ls ∷ rest) (length frames) (next_in (level_of regions (length frames) f level turns))) (sym same)
      (holds frame frames turns below rest runs (ap (slice_get (points_in f)) (sym least_is) ∙ next.is_point) top
      (subst (λ ls. ShowsFrames p variables w regions (frame ∷ frames) (ls ∷ rest)) same s))))

  of_frames : HoldsOnTop → (frames : List Frame) (levels : List (List Level)) → regions Depth ≡ length frames ∷ [] → ShowsFrames p variables w regions frames levels → Q frames levels i number
  of_frames holds [] levels depth s =
      let e : 0 ≡ suc i = same_word (regions Depth) 0 (suc i) depth next.depth in absurd (omega (arith, e))
  of_frames holds (frame ∷ frames) [] depth s = absurd s
  of_frames holds (frame ∷ frames) (levels ∷ rest) depth s =
      let e : suc (length frames) ≡ suc i = same_word (regions Depth) (suc (length frames)) (suc i) depth next.depth in
      let index : length frames ≡ i = omega (arith, e) in
      let runs : frame.function ≡ n = same_word (regions (OfHead i FunctionOf)) frame.function n (ap (λ k. regions (OfHead k FunctionOf)) (sym index) ∙ s.0.number) next.function in
      let is : slice_get p.functions frame.function ≡ Some f = ap (slice_get p.functions) runs ∙ next.is_function in
      let waits = levels_are p variables w regions (length frames) frame levels f level s.0 is (subst (λ k. IsInnermost w regions k f level) (sym index) next.innermost) in
      on_levels holds frame frames levels rest index runs s waits.0 waits.1 waits.2 waits.3

  pub on_top : HoldsOnTop → (masked : Masked) → Shows p variables w regions masked → Q masked.state.frames masked.levels i number
  on_top holds masked shows = of_frames holds masked.state.frames masked.levels shows.depth shows.frames
