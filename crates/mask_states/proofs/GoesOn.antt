-- What a step leaves of the frames, and that the settled state stands again.
use Rattle.std.proofs.Common.{◌≡◌, refl, sym, ap, ◌∙◌, subst, ℕ, List, [], ◌∷◌, Option, Some, None}
use Rattle.std.specs.Prelude.{Result, Ok, Err, slice_get}
use Rattle.gang_model.specs.Types.Tree.{StepNumber, Arg, Call, Function, Program}
use Rattle.gang_model.specs.Running.Lanes.{Fault, ◌>>=◌}
use Rattle.gang_model.specs.Running.State.{Run, Task, Frame, State, with_first}
use Rattle.gang_model.specs.Running.Step.{task, settled, settle, with_tasks, stepped}
use Rattle.gang_model.specs.Debugger.Events.{gone}
use Rattle.gang_model.proofs.StateLanes.{TasksSized, FramesSized, StateSized}
use Rattle.mask_states.specs.Masked.{Level, closed}
use Rattle.mask_states.specs.MaskedStep.{untasked, Acted, acted}
use Rattle.mask_states.specs.Stands.{IsPending, FrameStands, FramesStand, LevelsStand, Stands, EndAlike}
use Rattle.mask_states.proofs.Bones.{Bone, bone, bones}
use Rattle.mask_states.proofs.UntaskedWrites.{untasked_settle}
use Rattle.mask_states.proofs.Levels.{Settles, settle_levels}
use Rattle.std.proofs.lemmas.Option.{same_Some}

-- ---- levels stand for what a frame has to do, whatever its variables hold

first_bone : (b c : Bone) (bs cs : List Bone) → b ∷ bs ≡ c ∷ cs → b ≡ c
first_bone b c bs cs e = cc

other_bones : (b c : Bone) (bs cs : List Bone) → b ∷ bs ≡ c ∷ cs → bs ≡ cs
other_bones b c bs cs e = cc

-- a call that is pending, by what is kept of the frame that it made
abbrev IsPendingCall : Bone → List Task → List Task → Type 0
IsPendingCall above tasks all =
    (number : StepNumber) × (args : List Arg) × (above.call ≡ Some number)
    × (all ≡ task (Run (Call number above.function args above.result_for)) above.lanes ∷ tasks)

-- what is kept of a frame but its tasks
abbrev pub without_tasks : Bone → Bone
without_tasks b = record b { tasks = [] }

abbrev pub maker : Option Frame → Option Bone
maker None = None
maker (Some frame) = Some (without_tasks (bone frame))

pending_same : (above above' : Option Frame) (frame frame' : Frame) (all : List Task) → maker above ≡ maker above' → bone frame ≡ bone frame'
    → IsPending above frame.tasks all → IsPending above' frame'.tasks all
pending_same None None frame frame' all e d p = p ∙ ap (λ c. c.tasks) d
pending_same None (Some above') frame frame' all e d p = absurd cc
pending_same (Some above) None frame frame' all e d p = absurd cc
pending_same (Some above) (Some above') frame frame' all e d p =
    subst (λ c. IsPendingCall c frame'.tasks all) (same_Some (without_tasks (bone above)) (without_tasks (bone above')) e) (subst (λ c. IsPendingCall (without_tasks (bone above)) c.tasks all) d p)

module _ (p : Program) (w : ℕ) where
  frame_same : (above above' : Option Frame) (frame frame' : Frame) (levels : List Level) → maker above ≡ maker above' → bone frame ≡ bone frame'
      → FrameStands p w above frame levels → FrameStands p w above' frame' levels
  frame_same above above' frame frame' levels e d s = record {
    function = s.function;
    is_function = ap (slice_get p.functions) (sym (ap (λ c. c.function) d)) ∙ s.is_function;
    pending = s.pending;
    is_pending = pending_same above above' frame frame' s.pending e d s.is_pending;
    begins = s.begins;
    stands = s.stands;
    is_closed = s.is_closed;
  }

  pub frames_same : (above above' : Option Frame) (frames frames' : List Frame) (levels : List (List Level)) → maker above ≡ maker above' → bones frames ≡ bones frames'
      → FramesStand p w above frames levels → FramesStand p w above' frames' levels
  frames_same above above' [] [] levels e d s = subst (λ o. FramesStand p w above' [] levels) e (none_same levels s)
    where
      none_same : (levels : List (List Level)) → FramesStand p w above [] levels → FramesStand p w above' [] levels
      none_same [] s = tt
      none_same (l ∷ levels) s = absurd s
  frames_same above above' [] (frame' ∷ frames') levels e d s = absurd cc
  frames_same above above' (frame ∷ frames) [] levels e d s = absurd cc
  frames_same above above' (frame ∷ frames) (frame' ∷ frames') [] e d s = absurd s
  frames_same above above' (frame ∷ frames) (frame' ∷ frames') (l ∷ levels) e d s =
      let here : bone frame ≡ bone frame' = first_bone (bone frame) (bone frame') (bones frames) (bones frames') d in (
        frame_same above above' frame frame' l e here s.0,
        frames_same (Some frame) (Some frame') frames frames' levels (ap (λ b. Some (without_tasks b)) here) (other_bones (bone frame) (bone frame') (bones frames) (bones frames') d) s.1,
      )

  -- ---- a settled state stands again

  -- what is kept of a frame with other tasks
  abbrev pub with_bone_tasks : List Task → Frame → Bone
  with_bone_tasks tasks frame = record (bone frame) { tasks = tasks }

  settled_frames : (f : Function) (frame : Frame) (frames : List Frame) (level : Level) (below : List Level) (rest : List (List Level)) (tasks : List Task) (all : List Frame)
      → bones all ≡ with_bone_tasks tasks frame ∷ bones frames → slice_get p.functions frame.function ≡ Some f
      → LevelsStand f w (level ∷ below) tasks → FramesStand p w (Some frame) frames rest → FramesSized w (with_first (with_tasks settled) all)
      → FramesStand p w None (with_first (with_tasks settled) all) (closed (level ∷ below) ∷ rest)
  settled_frames f frame frames level below rest tasks [] b is s lower sized = absurd cc
  settled_frames f frame frames level below rest tasks (top ∷ others) b is s lower sized =
      let here : bone top ≡ with_bone_tasks tasks frame = first_bone (bone top) (with_bone_tasks tasks frame) (bones others) (bones frames) b in
      let same : top.tasks ≡ tasks = ap (λ c. c.tasks) here in
      let sized_tasks : TasksSized w (settled tasks) = subst (λ ts. TasksSized w (settled ts)) same sized.0.tasks in
      let settles : Settles f w (closed (level ∷ below)) (settled tasks) = settle_levels f w level below tasks s sized_tasks in
      let settled_top : Frame = with_tasks settled top in (
        record {
          function = f;
          is_function = ap (slice_get p.functions) (ap (λ c. c.function) here) ∙ is;
          pending = settled tasks;
          is_pending = ap settled (sym same);
          begins = settles.begins;
          stands = settles.stand;
          is_closed = settles.is_closed;
        },
        frames_same (Some frame) (Some settled_top) frames others rest (sym (ap (λ b. Some (without_tasks b)) here)) (sym (other_bones (bone top) (with_bone_tasks tasks frame) (bones others) (bones frames) b)) lower,
      )

  -- a step whose state has the frames of the old one, the top one with other tasks, for which levels stand
  pub goes_on : (f : Function) (frame : Frame) (frames : List Frame) (level : Level) (below : List Level) (rest : List (List Level)) (tasks : List Task) (after : State)
      → bones after.frames ≡ with_bone_tasks tasks frame ∷ bones frames → slice_get p.functions frame.function ≡ Some f
      → LevelsStand f w (level ∷ below) tasks → FramesStand p w (Some frame) frames rest → StateSized w (settle after)
      → Stands p w (settle after) (record { state = untasked after; levels = closed (level ∷ below) ∷ rest })
  goes_on f frame frames level below rest tasks after b is s lower sized = record {
    words = untasked_settle after;
    frames = settled_frames f frame frames level below rest tasks after.frames b is s lower sized;
  }

-- ---- both results of a step

-- the step of the source and the masked one end alike, where the sets of lanes have their size
abbrev pub Alike : Program → ℕ → State → Result State Fault → Result Acted Fault → List (List Level) → Type 0
Alike p w old result other rest = StateSized w (gone (stepped result) old) → EndAlike p w (stepped result) (acted other rest)

-- both go on with the same value, or stop at the same fault
pub alike_after : (p : Program) (w : ℕ) (old : State) {A : Type 0} (r : Result A Fault) (f : A → Result State Fault) (g : A → Result Acted Fault) (rest : List (List Level))
    → ((x : A) → r ≡ Ok x → Alike p w old (f x) (g x) rest) → Alike p w old (r >>= f) (r >>= g) rest
alike_after p w old (Ok x) f g rest go = go x refl
alike_after p w old (Err fault) f g rest go = λ sized. refl
