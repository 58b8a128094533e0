-- The first state of a run, and the frame that a call enters: a function's body begins, and its numbers stand for its one task.
use Rattle.std.proofs.Common.{◌≡◌, refl, sym, ap, ◌∙◌, subst, ℕ, zero, suc, ◌<◌, true, List, [], ◌∷◌, length, Option, Some, None, arith}
use Rattle.std.specs.Prelude.{map, replicate, slice_get}
use Rattle.std.proofs.lemmas.List.{length-map, length-replicate}
use Rattle.gang_types.specs.Lanes.{Lanes, has}
use Rattle.gang_model.specs.Types.Tree.{StepNumber, ResultFor, Nothing, Function, Program}
use Rattle.gang_model.specs.Running.Lanes.{at}
use Rattle.gang_model.specs.Running.State.{Run}
use Rattle.gang_model.specs.Running.Step.{Passed, task, settled, new_frame}
use Rattle.gang_model.specs.Debugger.Events.{Row, Given, with_rows, initial_memory, started, start}
use Rattle.mask_states.specs.Points.{entry_of, points_in, closing_number}
use Rattle.mask_states.specs.Masked.{entered_body}
use Rattle.mask_states.specs.MaskedStep.{untasked, entered_levels, masked_start}
use Rattle.mask_states.specs.Stands.{own, waits, Fits, TasksStand, LevelsStand, FrameStands, Stands, AreLowerable}
use Rattle.mask_states.proofs.OwnTasks.{by_bool, own_here, own_away}
use Rattle.mask_states.proofs.LaneNumbers.{length-sent, at-sent_in, at-sent_out}
use Rattle.mask_states.proofs.PlacedPoints.{function_placed}
use Rattle.mask_states.proofs.Settling.{settled_begins, settled_stands}

-- all lanes wait for one step
length-all : (end : StepNumber) (lanes : Lanes) → length (map (λ b. end) lanes) ≡ length lanes
length-all end lanes = length-map lanes (λ b. end)

at-all : (end : StepNumber) (lanes : Lanes) (k : ℕ) → k < length lanes → at (map (λ b. end) lanes) k ≡ end
at-all end [] k h = absurd (omega arith)
at-all end (b ∷ lanes) zero h = refl
at-all end (b ∷ lanes) (suc k) h = at-all end lanes k (omega arith)

module _ (p : Program) (lowerable : AreLowerable p) (n : ℕ) (f : Function) (is : slice_get p.functions n ≡ Some f) (w : ℕ) (lanes : Lanes) (size : length lanes ≡ w) where
  -- what a lane has to do in a body that begins
  body_fits : (k : ℕ) → Fits (points_in f) (Some (closing_number f)) (closing_number f) (own k (task (Run f.body) lanes ∷ []))
  body_fits k = by_bool (has lanes k)
      (λ h. subst (Fits (points_in f) (Some (closing_number f)) (closing_number f)) (sym (own_here k (task (Run f.body) lanes) [] h))
      (function_placed f (lowerable.functions n f is) (lowerable.numbered n f is), tt))
      (λ h. subst (Fits (points_in f) (Some (closing_number f)) (closing_number f)) (sym (own_away k (task (Run f.body) lanes) [] h)) tt)

  -- the lanes of the call wait for the body's first step, the others for the closing brace
  pub body_stands : TasksStand (points_in f) w (Some (closing_number f)) (entered_body f lanes) (task (Run f.body) lanes ∷ [])
  body_stands =
      let end : StepNumber = closing_number f in
      let target : ℕ → StepNumber = λ k. entry_of f.body end in
      let numbers : List StepNumber = map (λ b. end) lanes in
      record {
        sized = length-sent lanes target numbers (length-all end lanes) ∙ length-all end lanes ∙ size;
        numbers = λ k within. by_bool (has lanes k)
            (λ h. at-sent_in lanes target numbers k (length-all end lanes) h ∙ sym (ap (waits end) (own_here k (task (Run f.body) lanes) [] h)))
            (λ h. at-sent_out lanes target numbers k (length-all end lanes) h ∙ at-all end lanes k (omega (arith, within, size)) ∙ sym (ap (waits end) (own_away k (task (Run f.body) lanes) [] h)));
        fits = body_fits;
        order = (0, omega arith, lowerable.numbered n f is, omega arith);
        nested = (λ k h. (refl, refl), tt);
      }

  pub body_levels : LevelsStand f w (entered_body f lanes ∷ []) (task (Run f.body) lanes ∷ [])
  body_levels = (body_stands, refl, refl)

  -- the frame of a call, or the first one of a run, which no step called
  pub new_frame_stands : (call : Option StepNumber) (for : ResultFor) (arguments : Passed)
      → FrameStands p w None (record (new_frame n f lanes call for arguments) { tasks = settled (task (Run f.body) lanes ∷ []) }) (entered_body f lanes ∷ [])
  new_frame_stands call for arguments = record {
    function = f;
    is_function = is;
    pending = settled (task (Run f.body) lanes ∷ []);
    is_pending = refl;
    begins = settled_begins (points_in f) (Some (closing_number f)) (closing_number f) (task (Run f.body) lanes ∷ []) body_fits;
    stands = (settled_stands (points_in f) w (Some (closing_number f)) (entered_body f lanes) (task (Run f.body) lanes ∷ []) body_stands, refl, refl);
    is_closed = refl;
  }

-- ---- the start

started_stands : (p : Program) → AreLowerable p → (entry : ℕ) (width : ℕ) (given : Given) (o : Option Function) → slice_get p.functions entry ≡ o
    → Stands p width (started o entry width given) (record { state = untasked (started o entry width given); levels = entered_levels o (replicate width true) })
started_stands p lowerable entry width given None is = record { words = refl; frames = tt }
started_stands p lowerable entry width given (Some f) is = record {
  words = refl;
  frames = (new_frame_stands p lowerable entry f is width (replicate width true) (length-replicate width true) None Nothing given.passed, tt);
}

-- the first masked state stands for the first state
pub start_stands : (p : Program) → AreLowerable p → (entry : ℕ) (rows : List Row) (width : ℕ) → Stands p width (start p entry rows width) (masked_start p entry rows width)
start_stands p lowerable entry rows width =
    started_stands p lowerable entry width (with_rows rows (record { passed = record { views = []; vars = [] }; memory = initial_memory width p.globals })) (slice_get p.functions entry) refl
