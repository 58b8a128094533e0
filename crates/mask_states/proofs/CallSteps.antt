-- A call enters a frame; its lanes wait at it in the frame that made it.
use Rattle.std.proofs.Common.{◌≡◌, refl, sym, ap, ◌∙◌, subst, ℕ, List, [], ◌∷◌, ◌++◌, Option, Some, None, length}
use Rattle.std.specs.Prelude.{Result, Ok, Err, IfOk, slice_get}
use Rattle.gang_types.specs.Lanes.{Lanes}
use Rattle.gang_model.specs.Types.Tree.{StepNumber, Arg, ResultFor, Call, Function, Program}
use Rattle.gang_model.specs.Running.Lanes.{Fault, ◌>>=◌}
use Rattle.gang_model.specs.Running.State.{Store, Run, Task, Frame, State}
use Rattle.gang_model.specs.Running.Step.{task, settled, settle, with_tasks, new_frame, Passed, run}
use Rattle.mask_states.specs.Points.{Enter}
use Rattle.mask_states.specs.Masked.{Level, entered_body}
use Rattle.mask_states.specs.MaskedStep.{untasked, act, Acted, entered_levels}
use Rattle.mask_states.specs.Stands.{AreLowerable, FrameStands, FramesStand, Stands}
use Rattle.mask_states.proofs.ResultLaws.{map_ok}
use Rattle.mask_states.proofs.UntaskedWrites.{untasked_settle}
use Rattle.mask_states.proofs.UntaskedCalls.{with_frame, EntersOn, call_untasked, call_enters}
use Rattle.mask_states.proofs.Beginning.{new_frame_stands}
use Rattle.mask_states.proofs.GoesOn.{frames_same, Alike}
use Rattle.mask_states.proofs.HeadSteps.{with_top_tasks}

-- what is made of a state without its tasks
through_untasked : {A : Type 0} (g : State → A) (r : Result State Fault) → (r >>= (λ x. Ok (g (untasked x)))) ≡ (map_ok untasked r >>= (λ x. Ok (g x)))
through_untasked g (Ok x) = refl
through_untasked g (Err fault) = refl

module _ (p : Program) (lowerable : AreLowerable p) (w : ℕ) (memory : Store) (frame : Frame) (frames : List Frame) (level : Level) (below : List Level) (rest : List (List Level))
    (lower : FramesStand p w (Some frame) frames rest) (old : State) (S : Lanes) (tasks : List Task) (sized : length S ≡ w)
    (number : StepNumber) (n : ℕ) (args : List Arg) (result_for : ResultFor) (g : Function) (is : slice_get p.functions n ≡ Some g)
    (whole : FrameStands p w None (record frame { tasks = task (Run (Call number n args result_for)) S ∷ tasks }) (level ∷ below)) where
  abbrev out : State
  out = with_top_tasks memory frame frames tasks

  -- the frame that the call enters
  abbrev made : Passed → Frame
  made arguments = new_frame n g S (Some number) result_for arguments

  -- the frame that makes the call has it before it, and stands as before
  caller_stands : (arguments : Passed) → FrameStands p w (Some (with_tasks settled (made arguments))) (record frame { tasks = tasks }) (level ∷ below)
  caller_stands arguments = record {
    function = whole.function;
    is_function = whole.is_function;
    pending = whole.pending;
    is_pending = (number, args, refl, whole.is_pending);
    begins = whole.begins;
    stands = whole.stands;
    is_closed = whole.is_closed;
  }

  called_stands : (arguments : Passed)
      → Stands p w (settle (with_frame (made arguments) out))
      (record { state = untasked (with_frame (made arguments) out); levels = (entered_body g S ∷ []) ∷ (level ∷ below) ∷ rest })
  called_stands arguments = record {
    words = untasked_settle (with_frame (made arguments) out);
    frames = (
      new_frame_stands p lowerable n g is w S sized (Some number) result_for arguments,
      (caller_stands arguments, frames_same p w (Some frame) (Some (record frame { tasks = tasks })) frames frames rest refl refl lower),
    );
  }

  entered_alike : (r : Result State Fault) → IfOk r (EntersOn (Some g) n number result_for S out)
      → Alike p w old r (map_ok untasked r >>= (λ after. Ok (record { state = after; levels = entered_levels (Some g) S ++ (level ∷ below) ∷ [] }))) rest
  entered_alike (Err fault) h = λ size. refl
  entered_alike (Ok after) h = λ size.
      subst (λ state. Stands p w (settle state) (record { state = untasked state; levels = (entered_body g S ∷ []) ∷ (level ∷ below) ∷ rest })) (sym h.1) (called_stands h.0)

  -- a call, or its first fault
  pub call_alike : (next : StepNumber)
      → Alike p w old (run p (Call number n args result_for) S out) (act p number (Enter n args result_for next) S (untasked out) level below) rest
  call_alike next =
      let r = run p (Call number n args result_for) S out in
      let made_of : Option Function → State → Acted = λ o after. record { state = after; levels = entered_levels o S ++ (level ∷ below) ∷ [] } in
      let enters : IfOk r (EntersOn (Some g) n number result_for S out) = subst (λ o. IfOk r (EntersOn o n number result_for S out)) is (call_enters p number n args result_for S out) in
      let same : act p number (Enter n args result_for next) S (untasked out) level below ≡ (map_ok untasked r >>= (λ after. Ok (made_of (Some g) after))) =
      through_untasked (made_of (slice_get p.functions n)) (run p (Call number n args result_for) S (untasked out))
      ∙ ap (λ q. q >>= (λ after. Ok (made_of (slice_get p.functions n) after))) (call_untasked p number n args result_for S out)
      ∙ ap (λ o. map_ok untasked r >>= (λ after. Ok (made_of o after))) is in
      subst (λ q. Alike p w old r q rest) (sym same) (entered_alike r enters)
