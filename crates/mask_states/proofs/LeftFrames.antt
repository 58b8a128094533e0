-- A frame without tasks stands at its closing brace, and leaving it keeps what numbers stand for.
use Rattle.std.proofs.Common.{◌≡◌, refl, sym, ap, ◌∙◌, subst, ℕ, List, [], ◌∷◌, ◌++◌, Option, Some, None, length}
use Rattle.std.specs.Prelude.{map, slice_get}
use Rattle.gang_model.specs.Types.Tree.{StepNumber, Stmt, Returns, Function, Program}
use Rattle.gang_model.specs.Running.State.{Store, Task, Frame, State, with_first, seen}
use Rattle.gang_model.specs.Running.Rounds.{Turn}
use Rattle.gang_model.specs.Running.Step.{settled, settle, with_tasks, leaves_task, round_tasks, deliver, left, leave, step_task, step_frame}
use Rattle.gang_model.proofs.StateLanes.{FramesSized, StateSized, sized-frames}
use Rattle.mask_states.specs.Points.{points_in, closing_number}
use Rattle.mask_states.specs.Masked.{Level, next_in, sent_in, closed, turns_taken}
use Rattle.mask_states.specs.MaskedStep.{untasked_frame, untasked, points_at, points_for, past_call, past_calls, step_point, step_levels}
use Rattle.mask_states.specs.Stands.{TasksStand, LevelsStand, FrameStands, FramesStand, Stands, EndAlike}
use Rattle.mask_states.proofs.ActiveLanes.{next_is_end}
use Rattle.mask_states.proofs.Bones.{bone, bones, bone_left, IsKept, TopHasFunction, top_left, bones_deliver, bones_delivered, bones_deliver_returns}
use Rattle.mask_states.proofs.GoesOn.{with_bone_tasks, goes_on}
use Rattle.mask_states.proofs.OpenLevels.{not_over}
use Rattle.mask_states.proofs.PastCalls.{by_result, call_goes_on}
use Rattle.mask_states.proofs.PlacedPoints.{no_point_at_end}
use Rattle.mask_states.proofs.UntaskedWrites.{untasked_settle, untasked_leave}

-- ---- a frame without tasks

-- its levels are the function's body alone, at its closing brace
pub record AtEnd (f : Function) (levels : List Level) : Type 0 where
  pub level : Level
  pub alone : levels ≡ level ∷ []
  pub at_end : next_in level ≡ closing_number f
  pub no_point : slice_get (points_in f) (next_in level) ≡ None

no_first : (xs ys : List Task) → [] ≡ xs ++ ys → (xs ≡ []) × (ys ≡ [])
no_first [] ys e = (refl, sym e)
no_first (x ∷ xs) ys e = absurd cc

no_rounds : (number : StepNumber) (body : Stmt) (turns : List Turn) → round_tasks number body turns ≡ [] → turns ≡ []
no_rounds number body [] e = refl
no_rounds number body (turn ∷ turns) e = absurd cc

pub levels_at_end : (f : Function) (w : ℕ) (levels : List Level) → LevelsStand f w levels [] → closed levels ≡ levels → AtEnd f levels
levels_at_end f w [] s c = absurd s
levels_at_end f w (level ∷ []) s c =
    let idle : next_in level ≡ closing_number f = next_is_end (points_in f) w (Some (closing_number f)) level s.0 ∙ s.1 in
    record {
      level = level;
      alone = refl;
      at_end = idle;
      no_point = ap (slice_get (points_in f)) idle ∙ no_point_at_end f;
    }
levels_at_end f w (level ∷ next ∷ below) (now, body, turns, rest, e, stand, rounds, lower) c =
    let parts = no_first now (round_tasks level.end body turns ++ rest) e in
    let none : turns ≡ [] = no_rounds level.end body turns (no_first (round_tasks level.end body turns) rest (sym parts.1)).0 in
    let taken : level.turns ≡ [] = sym rounds.taken ∙ ap turns_taken none in
    let idle : next_in level ≡ level.end = next_is_end (points_in f) w None level (subst (λ ts. TasksStand (points_in f) w None level ts) parts.0 stand) in
    absurd (not_over level next below c taken idle)

pub left_at_end : (p : Program) (w : ℕ) (frame : Frame) (levels : List Level) → (s : FrameStands p w None frame levels) → frame.tasks ≡ [] → AtEnd s.function levels
left_at_end p w frame levels s e = levels_at_end s.function w levels (subst (LevelsStand s.function w levels) (s.is_pending ∙ e) s.stands) s.is_closed

-- ---- what is kept of the frames below

-- all but words; the lanes that return leave the caller's tasks
module _ (p : Program) (frame : Frame) (s : State) where
  kept_bones : (o : Option Function) → IsKept frame.result_for → bones (left p o frame s).frames ≡ bones s.frames
  kept_bones None kept = refl
  kept_bones (Some f) kept = bones_deliver p f.result_type frame.result_for kept frame.lanes (seen f.result frame.lanes frame.result) s

  returned_bones : (f g : Function) (caller : Frame) (others : List Frame) → frame.result_for ≡ Returns → s.frames ≡ caller ∷ others → slice_get p.functions caller.function ≡ Some g
      → bones (left p (Some f) frame s).frames ≡ bone_left frame.lanes (bone caller) ∷ bones others
  returned_bones f g caller others e same is =
      subst (λ r. bones (deliver p f.result_type r frame.lanes (seen f.result frame.lanes frame.result) s).frames ≡ bone_left frame.lanes (bone caller) ∷ bones others)
      (sym e) (bones_deliver_returns p f.result_type frame.lanes (seen f.result frame.lanes frame.result) s caller others g same is)

  none_bones : (o : Option Function) → s.frames ≡ [] → bones (left p o frame s).frames ≡ []
  none_bones None e = ap bones e
  none_bones (Some f) e = by_result frame.result_for (λ kept. kept_bones (Some f) kept ∙ ap bones e) (λ returns.
      subst (λ r. bones (deliver p f.result_type r frame.lanes (seen f.result frame.lanes frame.result) s).frames ≡ []) (sym returns)
      (bones_delivered p f.result_type frame.lanes (seen f.result frame.lanes frame.result) s (subst (λ fs. TopHasFunction p (bones fs)) (sym e) tt) ∙ ap (λ fs. top_left frame.lanes (bones fs)) e))

-- ---- leaving

no_frames : (p : Program) (w : ℕ) (change : Frame → Frame) (all : List Frame) → bones all ≡ [] → FramesStand p w None (with_first change all) []
no_frames p w change [] e = tt
no_frames p w change (frame ∷ frames) e = absurd cc

module _ (p : Program) (w : ℕ) (memory : Store) (frame : Frame) where
  -- the state without the frame
  abbrev pub state_below : List Frame → State
  state_below frames = record { memory = memory; frames = frames }

  -- the states that the two steps lead to
  abbrev pub LeftStands : List Frame → List (List Level) → Type 0
  LeftStands frames rest = Stands p w (settle (leave p frame (state_below frames)))
      (record { state = leave p (untasked_frame frame) (state_below (map untasked_frame frames)); levels = past_calls p (map untasked_frame frames) rest })

  module _ (f : Function) (is : slice_get p.functions frame.function ≡ Some f) (sized : length frame.lanes ≡ w) where
    -- the result goes to the frame that made the call
    to_caller : (caller : Frame) (others : List Frame) (level : Level) (below : List Level) (more : List (List Level)) → FrameStands p w (Some frame) caller (level ∷ below)
        → FramesStand p w (Some caller) others more → StateSized w (settle (leave p frame (state_below (caller ∷ others)))) → LeftStands (caller ∷ others) ((level ∷ below) ∷ more)
    to_caller caller others level below more s lower sized_after =
        let before : State = state_below (caller ∷ others) in
        let after : State = leave p frame before in
        let past = call_goes_on p w frame caller level below s sized in
        let g : Function = s.function in
        let goes : (tasks : List Task) → bones after.frames ≡ with_bone_tasks p w tasks caller ∷ bones others
        → LevelsStand g w (sent_in frame.lanes (λ k. past.next) level ∷ below) tasks
        → Stands p w (settle after) (record { state = untasked after; levels = closed (sent_in frame.lanes (λ k. past.next) level ∷ below) ∷ more }) =
        λ tasks b stands. goes_on p w g caller others (sent_in frame.lanes (λ k. past.next) level) below more tasks after b s.is_function stands lower sized_after in
        let stands : Stands p w (settle after) (record { state = untasked after; levels = closed (sent_in frame.lanes (λ k. past.next) level ∷ below) ∷ more }) =
        by_result frame.result_for
        (λ kept. goes caller.tasks (kept_bones p frame before (slice_get p.functions frame.function) kept) (past.kept kept))
        (λ returns.
        let r = past.returned returns in
        goes (map (leaves_task frame.lanes) caller.tasks)
        (ap (λ o. bones (left p o frame before).frames) is ∙ returned_bones p frame before f g caller others returns refl s.is_function)
        (subst (λ ls. LevelsStand g w (sent_in frame.lanes (λ k. past.next) level ∷ ls) (map (leaves_task frame.lanes) caller.tasks)) (sym r.0) r.3)) in
        let levels_after : closed (sent_in frame.lanes (λ k. past.next) level ∷ below) ≡ past_call (points_for p caller.function) (level ∷ below) =
        sym (ap (λ o. past_call (points_at o) (level ∷ below)) s.is_function ∙ past.past) in
        subst (λ ls. Stands p w (settle after) (record { state = leave p (untasked_frame frame) (state_below (map untasked_frame (caller ∷ others))); levels = ls ∷ more })) levels_after
        (subst (λ state. Stands p w (settle after) (record { state = state; levels = closed (sent_in frame.lanes (λ k. past.next) level ∷ below) ∷ more }))
        (sym (untasked_leave p frame before)) stands)

    -- with no frame below nothing is left to do
    to_none : LeftStands [] []
    to_none = record {
      words = untasked_settle (leave p frame (state_below [])) ∙ sym (untasked_leave p frame (state_below []));
      frames = no_frames p w (with_tasks settled) (leave p frame (state_below [])).frames (none_bones p frame (state_below []) (slice_get p.functions frame.function) refl);
    }

    -- the frame is left: the levels of the frames below stand again
    pub left_alike : (frames : List Frame) (rest : List (List Level)) → FramesStand p w (Some frame) frames rest → StateSized w (settle (leave p frame (state_below frames))) → LeftStands frames rest
    left_alike [] [] s sized_after = to_none
    left_alike [] (levels ∷ rest) s sized_after = absurd s
    left_alike (caller ∷ others) [] s sized_after = absurd s
    left_alike (caller ∷ others) ([] ∷ rest) s sized_after = absurd s.0.stands
    left_alike (caller ∷ others) ((level ∷ below) ∷ rest) s sized_after = to_caller caller others level below rest s.0 s.1 sized_after

  -- ---- the two steps

  left_sized : (frames : List Frame) → frame.tasks ≡ [] → FramesSized w (frame ∷ frames) → StateSized w (settle (leave p frame (state_below frames)))
  left_sized frames e sized =
      let same : untasked_frame frame ≡ frame = ap (λ ts. record frame { tasks = ts }) (sym e) in
      subst (λ top. StateSized w (settle (leave p top (state_below frames)))) same
      (sized-frames w p memory (untasked_frame frame ∷ frames) (record { call = sized.0.call; tasks = tt }, sized.1))

  -- a frame without tasks is left by both
  pub left_steps_alike : (frames : List Frame) (levels : List Level) (rest : List (List Level)) → FrameStands p w None frame levels → frame.tasks ≡ [] → FramesStand p w (Some frame) frames rest
      → FramesSized w (frame ∷ frames) → EndAlike p w (step_frame p memory (frame ∷ frames)) (step_levels p memory (map untasked_frame (frame ∷ frames)) (levels ∷ rest))
  left_steps_alike frames levels rest s e lower sized =
      let end : AtEnd s.function levels = left_at_end p w frame levels s e in
      let stands : LeftStands frames rest = left_alike s.function s.is_function sized.0.call frames rest lower (left_sized frames e sized) in
      let none : slice_get (points_for p frame.function) (next_in end.level) ≡ None =
      ap (λ o. slice_get (points_at o) (next_in end.level)) s.is_function ∙ end.no_point in
      subst (λ ls. EndAlike p w (step_frame p memory (frame ∷ frames)) (step_levels p memory (map untasked_frame (frame ∷ frames)) (ls ∷ rest))) (sym end.alone)
      (subst (λ ts. EndAlike p w (step_task p memory frames frame ts) (step_levels p memory (map untasked_frame (frame ∷ frames)) ((end.level ∷ []) ∷ rest))) (sym e)
      (subst (λ o. EndAlike p w (step_task p memory frames frame []) (step_point p memory (map untasked_frame frames) (untasked_frame frame) o end.level [] rest)) (sym none) stands))
