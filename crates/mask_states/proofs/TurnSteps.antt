-- The next round of a foreach form begins.
use Rattle.std.proofs.Common.{◌≡◌, refl, sym, ap, ◌∙◌, subst, ℕ, false, List, [], ◌∷◌, ◌++◌, Some, None}
use Rattle.std.specs.Prelude.{Ok, slice_get, not, if◌then◌else◌}
use Rattle.gang_types.specs.Lanes.{Lanes, no_lane}
use Rattle.gang_model.specs.Types.Tree.{StepNumber, Stmt, Function, Program}
use Rattle.gang_model.specs.Running.State.{Store, Run, Round, RoundEnd, Task, Frame, State, with_first}
use Rattle.gang_model.specs.Running.Rounds.{Turn}
use Rattle.gang_model.specs.Running.Step.{task, settle, with_tasks, first_do, round_tasks, with_store, perform}
use Rattle.gang_model.proofs.StateLanes.{StateSized}
use Rattle.mask_states.specs.Points.{Turn as TakeTurn, entry_of, points_in}
use Rattle.mask_states.specs.Masked.{Level, sent, closed, turns_taken}
use Rattle.mask_states.specs.MaskedStep.{untasked, act, turn_taken}
use Rattle.mask_states.specs.Stands.{TasksStand, RoundsStand, LevelsStand, FramesStand, Stands}
use Rattle.mask_states.proofs.UntaskedWrites.{untasked_first_do, untasked_store}
use Rattle.mask_states.proofs.Bones.{Bone, bones, bones_store}
use Rattle.mask_states.proofs.RoundHeads.{round_begins}
use Rattle.mask_states.proofs.GoesOn.{with_bone_tasks, goes_on, Alike}
use Rattle.mask_states.proofs.HeadSteps.{with_top_tasks}

-- what is kept of frames the first of which gets other tasks
pub bones_changed : (change : List Task → List Task) (all : List Frame) (b : Bone) (bs : List Bone) → bones all ≡ b ∷ bs → bones (with_first (with_tasks change) all) ≡ record b { tasks = change b.tasks } ∷ bs
bones_changed change [] b bs e = absurd cc
bones_changed change (frame ∷ frames) b bs e = ap (changed_first change) e
  where
    changed_first : (List Task → List Task) → List Bone → List Bone
    changed_first change [] = []
    changed_first change (b ∷ bs) = record b { tasks = change b.tasks } ∷ bs

-- the rounds that some lane takes part in, the first of which has one
pub taken_first : (turn : Turn) (later : List Turn) → no_lane turn.lanes ≡ false → turns_taken (turn ∷ later) ≡ turn ∷ turns_taken later
taken_first turn later h = ap (λ b. if not b then turn ∷ turns_taken later else turns_taken later) h

module _ (p : Program) (w : ℕ) (f : Function) (memory : Store) (frame : Frame) (frames : List Frame) (level next : Level) (below : List Level) (rest : List (List Level))
    (is : slice_get p.functions frame.function ≡ Some f) (lower : FramesStand p w (Some frame) frames rest) (old : State)
    (turn : Turn) (later : List Turn) (body : Stmt) (behind : List Task) (some : no_lane turn.lanes ≡ false) (idle : TasksStand (points_in f) w None level [])
    (rounds : RoundsStand (points_in f) w level body (turn ∷ later)) (levels : LevelsStand f w (next ∷ below) behind) where
  abbrev begun_tasks : List Task
  begun_tasks = task (Run body) turn.lanes ∷ task RoundEnd turn.lanes ∷ []

  abbrev out : State
  out = with_top_tasks memory frame frames (round_tasks level.end body later ++ behind)

  abbrev after_turn : State
  after_turn = first_do begun_tasks (with_store turn.indices out)

  abbrev level_after : Level
  level_after = record level { turns = turns_taken later; numbers = sent turn.lanes (λ k. entry_of body level.end) level.numbers }

  turn_stands : StateSized w (settle after_turn)
      → Stands p w (settle after_turn) (record { state = with_store turn.indices (untasked out); levels = closed (level_after ∷ next ∷ below) ∷ rest })
  turn_stands sized =
      let kept : bones (with_store turn.indices out).frames ≡ with_bone_tasks p w (round_tasks level.end body later ++ behind) frame ∷ bones frames = bones_store turn.indices out in
      let b : bones after_turn.frames ≡ with_bone_tasks p w (begun_tasks ++ (round_tasks level.end body later ++ behind)) frame ∷ bones frames =
      bones_changed (λ ts. begun_tasks ++ ts) (with_store turn.indices out).frames _ _ kept in
      let here : TasksStand (points_in f) w None level_after begun_tasks =
      round_begins (points_in f) w level body (turn ∷ later) idle rounds turn (turns_taken later) rounds.sized.0 in
      let rounds_after : RoundsStand (points_in f) w level_after body later = record {
        taken = refl;
        sized = rounds.sized.1;
        turn = rounds.turn;
        body_placed = rounds.body_placed;
        first = rounds.first;
        numbered = rounds.numbered;
        above = rounds.above;
      } in
      subst (λ state. Stands p w (settle after_turn) (record { state = state; levels = closed (level_after ∷ next ∷ below) ∷ rest }))
      (untasked_first_do begun_tasks (with_store turn.indices out) ∙ untasked_store turn.indices out)
      (goes_on p w f frame frames level_after (next ∷ below) rest (begun_tasks ++ (round_tasks level.end body later ++ behind)) after_turn b is
      (begun_tasks, body, later, behind, refl, here, rounds_after, levels) lower sized)

  pub turn_alike : (number : StepNumber) (lanes : Lanes)
      → Alike p w old (perform p (Round level.end turn.indices body) turn.lanes out) (act p number (TakeTurn (entry_of body level.end)) lanes (untasked out) level (next ∷ below)) rest
  turn_alike number lanes =
      subst (λ turns. Alike p w old (Ok after_turn) (Ok (turn_taken (entry_of body level.end) turns (untasked out) level (next ∷ below))) rest)
      (sym (taken_first turn later some) ∙ rounds.taken) turn_stands
