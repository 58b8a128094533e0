-- The law of whole runs.
use Rattle.std.proofs.Common.{◌≡◌, refl, sym, subst, ℕ, List, [], ◌∷◌, Some, None}
use Rattle.std.specs.Prelude.{map, slice_get}
use Rattle.gang_model.specs.Source.Parsed.{ParsedSource}
use Rattle.gang_model.specs.Types.Tree.{Program}
use Rattle.gang_model.specs.Types.Resolved.{program_of}
use Rattle.gang_model.specs.Types.SourceRefusals.{IsAccepted}
use Rattle.gang_model.specs.Running.State.{Store, Task, Frame, State}
use Rattle.gang_model.specs.Running.Step.{Stepped, step_task, step_frame, step}
use Rattle.gang_model.specs.Running.Step as source
use Rattle.gang_model.specs.Debugger.Events.{Event, Step, Poke, start, gone, after}
use Rattle.gang_model.proofs.StateLanes.{TasksSized, FramesSized, StateSized, sized-start, sized-after}
use Rattle.mask_states.specs.Masked.{Level, Masked, next_in}
use Rattle.mask_states.specs.MaskedStep.{untasked_frame, points_at, MaskedStepped, Goes, Fails, Over, step_point, step_levels, masked_step, masked_start, masked_gone, masked_after}
use Rattle.mask_states.specs.Stands.{BeginsWithStep, LevelsStand, FrameStands, FramesStand, Stands, AreLowerable, EndAlike}
use Rattle.mask_states.specs.Law.{RunsAlike}
use Rattle.mask_states.proofs.AcceptedPrograms.{program_of-lowerable}
use Rattle.mask_states.proofs.Beginning.{start_stands}
use Rattle.mask_states.proofs.PokedStates.{poked_stands}
use Rattle.mask_states.proofs.ShownAlike.{shows_alike}
use Rattle.mask_states.proofs.LeftFrames.{left_steps_alike}
use Rattle.mask_states.proofs.StepsAlike.{tasks_step}

module _ (p : Program) (lowerable : AreLowerable p) (w : ℕ) where
  -- ---- one step

  -- the frame as it stands with its own tasks
  abbrev own_tasks : (frame : Frame) (levels : List Level) → FrameStands p w None frame levels → FrameStands p w None (record frame { tasks = frame.tasks }) levels
  own_tasks frame levels s = record {
    function = s.function;
    is_function = s.is_function;
    pending = s.pending;
    is_pending = s.is_pending;
    begins = s.begins;
    stands = s.stands;
    is_closed = s.is_closed;
  }

  step_of_frames : (memory : Store) (frames : List Frame) (levels : List (List Level)) (old : State) → FramesStand p w None frames levels → FramesSized w frames
      → StateSized w (gone (step_frame p memory frames) old) → EndAlike p w (step_frame p memory frames) (step_levels p memory (map untasked_frame frames) levels)
  step_of_frames memory [] [] old s sized size_after = tt
  step_of_frames memory [] (levels ∷ rest) old s sized size_after = absurd s
  step_of_frames memory (frame ∷ frames) [] old s sized size_after = absurd s
  step_of_frames memory (frame ∷ frames) ([] ∷ rest) old s sized size_after = absurd s.0.stands
  step_of_frames memory (frame ∷ frames) ((level ∷ below) ∷ rest) old s sized size_after = by_tasks frame.tasks refl
    where
      by_tasks : (tasks : List Task) → frame.tasks ≡ tasks
          → EndAlike p w (step_frame p memory (frame ∷ frames)) (step_levels p memory (map untasked_frame (frame ∷ frames)) ((level ∷ below) ∷ rest))
      by_tasks [] e = left_steps_alike p w memory frame frames (level ∷ below) rest s.0 e s.1 sized
      by_tasks (t ∷ ts) e =
          let here : FrameStands p w None (record frame { tasks = t ∷ ts }) (level ∷ below) =
          subst (λ us. FrameStands p w None (record frame { tasks = us }) (level ∷ below)) e (own_tasks frame (level ∷ below) s.0) in
          let alike = tasks_step p lowerable w memory frame frames level below rest here.function here.is_function s.1 old t ts
          (subst (λ us. LevelsStand here.function w (level ∷ below) us) here.is_pending here.stands) (subst BeginsWithStep here.is_pending here.begins) here.is_closed
          (subst (TasksSized w) e sized.0.tasks) here in
          subst (λ us. EndAlike p w (step_task p memory frames frame us) (step_levels p memory (map untasked_frame (frame ∷ frames)) ((level ∷ below) ∷ rest))) (sym e)
          (subst (λ o. EndAlike p w (step_task p memory frames frame (t ∷ ts)) (step_point p memory (map untasked_frame frames) (untasked_frame frame) (slice_get (points_at o) (next_in level)) level below rest))
          (sym here.is_function) (alike (subst (λ us. StateSized w (gone (step_task p memory frames frame us) old)) e size_after)))

  -- related states step alike
  pub step_alike : (state : State) (masked : Masked) → Stands p w state masked → StateSized w state → EndAlike p w (step p state) (masked_step p masked)
  step_alike state masked s sized =
      subst (λ m. EndAlike p w (step p state) (step_levels p m.memory m.frames masked.levels)) s.words
      (step_of_frames state.memory state.frames masked.levels state s.frames sized (sized-after w p state (Step ∷ []) sized))

  -- ---- any number of steps and pokes

  gone_stands : (state : State) (masked : Masked) (r : Stepped) (q : MaskedStepped) → Stands p w state masked → EndAlike p w r q → Stands p w (gone r state) (masked_gone q masked)
  gone_stands state masked (source.Goes next) (Goes next_masked) s e = e
  gone_stands state masked (source.Fails fault) (Fails other) s e = s
  gone_stands state masked source.Over Over s e = s
  gone_stands state masked r q s e = absurd e

  pub stands_after : (first : State) (masked : Masked) → Stands p w first masked → StateSized w first → (events : List Event) → Stands p w (after p first events) (masked_after p masked events)
  stands_after first masked s sized [] = s
  stands_after first masked s sized (Step ∷ events) =
      let before = stands_after first masked s sized events in
      gone_stands (after p first events) (masked_after p masked events) (step p (after p first events)) (masked_step p (masked_after p masked events)) before
      (step_alike (after p first events) (masked_after p masked events) before (sized-after w p first events sized))
  stands_after first masked s sized (Poke what word ∷ events) =
      poked_stands p w (after p first events) (masked_after p masked events) (stands_after first masked s sized events) what word

-- numbers change nothing that is shown
pub runs_alike : (p : Program) → AreLowerable p → RunsAlike p
runs_alike p lowerable entry rows width events =
    let first = start p entry rows width in
    let masked = masked_start p entry rows width in
    let sized = sized-after width p first events (sized-start width p entry rows) in
    let stands = stands_after p lowerable width first masked (start_stands p lowerable entry rows width) (sized-start width p entry rows) events in (
      shows_alike p lowerable width (after p first events) (masked_after p masked events) stands sized,
      step_alike p lowerable width (after p first events) (masked_after p masked events) stands sized,
    )

-- so of every accepted source
pub accepted_alike : (source : ParsedSource) (p : Program) → IsAccepted source → program_of source ≡ Some p → RunsAlike p
accepted_alike source p accepted e = runs_alike p (program_of-lowerable source p accepted e)
