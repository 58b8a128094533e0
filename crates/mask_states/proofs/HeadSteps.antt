-- A step of the innermost level's first task: what the point does is what the task does, and the new levels stand for the new tasks.
use Rattle.std.proofs.Common.{◌≡◌, refl, sym, ap, ◌∙◌, subst, ℕ, List, [], ◌∷◌, ◌++◌, Option, Some, None, length, append_assoc}
use Rattle.std.specs.Prelude.{Result, Ok, Err, IfOk, slice_get, if◌then◌else◌}
use Rattle.gang_types.specs.Lanes.{Lanes}
use Rattle.gang_model.specs.Types.Tree.{Expr, StepNumber, RoundsOf, Stmt, Function, Program}
use Rattle.gang_model.specs.Running.Lanes.{Fault, ◌>>=◌, at, holds}
use Rattle.gang_model.specs.Running.State.{Store, Task, Frame, State, on_top}
use Rattle.gang_model.specs.Running.Rounds.{Turn, rounds}
use Rattle.gang_model.specs.Running.Value.{value}
use Rattle.gang_model.specs.Running.Step.{settle, with_tasks, first_do, round_number, round_tasks, run}
use Rattle.gang_model.proofs.StateLanes.{StateSized}
use Rattle.gang_model.proofs.RoundLanes.{IsRoundOf, length-rounds}
use Rattle.gang_model.proofs.StandingLaws.{Each}
use Rattle.mask_states.specs.Points.{Put, Go, Branch, Choose, Begin, points_in}
use Rattle.mask_states.specs.Masked.{Level, sent_in, closed, begun}
use Rattle.mask_states.specs.MaskedStep.{untasked, act, segment_of, chosen}
use Rattle.mask_states.specs.Stands.{AreSized, TasksStand, RoundsStand, FramesStand, Stands}
use Rattle.mask_states.proofs.ResultLaws.{map_ok, if_ok_at}
use Rattle.mask_states.proofs.UntaskedValues.{untasked_value, untasked_rounds}
use Rattle.mask_states.proofs.UntaskedSteps.{PutsNothing, run_untasked}
use Rattle.mask_states.proofs.Bones.{bones}
use Rattle.mask_states.proofs.Levels.{StandsBehind, join_levels, behind_numbers}
use Rattle.mask_states.proofs.GoesOn.{with_bone_tasks, goes_on, Alike, alike_after}

-- a state whose top frame has these tasks
abbrev pub with_top_tasks : Store → Frame → List Frame → List Task → State
with_top_tasks memory frame frames tasks = record { memory = memory; frames = record frame { tasks = tasks } ∷ frames }

module _ (p : Program) (w : ℕ) (f : Function) (memory : Store) (frame : Frame) (frames : List Frame) (level : Level) (below : List Level) (rest : List (List Level))
    (back : Option StepNumber) (behind : List Task) (is : slice_get p.functions frame.function ≡ Some f) (stands_behind : StandsBehind f w level below back behind)
    (lower : FramesStand p w (Some frame) frames rest) (old : State) where
  abbrev out : List Task → State
  out more = with_top_tasks memory frame frames (more ++ behind)

  -- the level's lanes are sent on, and its new tasks stand before what stands behind
  moves : (lanes : Lanes) (target : ℕ → StepNumber) (new : List Task) (after : State) → bones after.frames ≡ with_bone_tasks p w (new ++ behind) frame ∷ bones frames
      → TasksStand (points_in f) w back (sent_in lanes target level) new → StateSized w (settle after)
      → Stands p w (settle after) (record { state = untasked after; levels = closed (sent_in lanes target level ∷ below) ∷ rest })
  moves lanes target new after b s sized =
      goes_on p w f frame frames (sent_in lanes target level) below rest (new ++ behind) after b is
      (join_levels f w (sent_in lanes target level) below back new behind s (behind_numbers f w level _ below back behind stands_behind)) lower sized

  -- ---- statements that put no tasks

  put_result : (lanes : Lanes) (next : StepNumber) (new : List Task) (r : Result State Fault) → IfOk r (λ after. bones after.frames ≡ with_bone_tasks p w (new ++ behind) frame ∷ bones frames)
      → TasksStand (points_in f) w back (sent_in lanes (λ k. next) level) new
      → Alike p w old r (map_ok untasked r >>= (λ after. Ok (record { state = after; levels = closed (sent_in lanes (λ k. next) level ∷ below) ∷ [] }))) rest
  put_result lanes next new (Ok after) b s = moves lanes (λ k. next) new after b s
  put_result lanes next new (Err fault) b s = λ sized. refl

  pub put_alike : (lanes : Lanes) (next number : StepNumber) (s : Stmt) → PutsNothing s → (more new : List Task)
      → IfOk (run p s lanes (out more)) (λ after. bones after.frames ≡ with_bone_tasks p w (new ++ behind) frame ∷ bones frames)
      → TasksStand (points_in f) w back (sent_in lanes (λ k. next) level) new
      → Alike p w old (run p s lanes (out more)) (act p number (Put s next) lanes (untasked (out more)) level below) rest
  put_alike lanes next number s puts more new b stand =
      subst (λ r. Alike p w old (run p s lanes (out more)) (r >>= (λ after. Ok (record { state = after; levels = closed (sent_in lanes (λ k. next) level ∷ below) ∷ [] }))) rest)
      (sym (run_untasked p s puts lanes (out more))) (put_result lanes next new (run p s lanes (out more)) b stand)

  -- ---- forms that branch

  pub branch_alike : (lanes : Lanes) (number yes' no' : StepNumber) (test : Expr) (more : List Task) (new : List ℕ → List Task)
      → ((c : List ℕ) → TasksStand (points_in f) w back (sent_in lanes (λ j. if holds c j then yes' else no') level) (new c ++ more))
      → Alike p w old (value test lanes (out more) >>= (λ c. Ok (first_do (new c) (out more)))) (act p number (Branch test yes' no') lanes (untasked (out more)) level below) rest
  branch_alike lanes number yes' no' test more new stand =
      subst (λ r. Alike p w old (value test lanes (out more) >>= (λ c. Ok (first_do (new c) (out more))))
      (r >>= (λ c. Ok (record { state = untasked (out more); levels = closed (sent_in lanes (λ k. if holds c k then yes' else no') level ∷ below) ∷ [] }))) rest)
      (sym (untasked_value test lanes (out more)))
      (alike_after p w old (value test lanes (out more)) _ _ rest (λ c _.
      moves lanes (λ k. if holds c k then yes' else no') (new c ++ more) (first_do (new c) (out more))
      (ap (λ ts. with_bone_tasks p w ts frame ∷ bones frames) (sym (append_assoc (new c) more behind))) (stand c)))

  pub choose_alike : (lanes : Lanes) (number next : StepNumber) (e : Expr) (segments : Stmt) (entries : List StepNumber) (more : List Task) (new : List ℕ → List Task)
      → ((x : List ℕ) → TasksStand (points_in f) w back (sent_in lanes (λ j. chosen entries next (segment_of segments (at x j))) level) (new x ++ more))
      → Alike p w old (value e lanes (out more) >>= (λ x. Ok (first_do (new x) (out more)))) (act p number (Choose e segments entries next) lanes (untasked (out more)) level below) rest
  choose_alike lanes number next e segments entries more new stand =
      subst (λ r. Alike p w old (value e lanes (out more) >>= (λ x. Ok (first_do (new x) (out more))))
      (r >>= (λ x. Ok (record { state = untasked (out more); levels = closed (sent_in lanes (λ k. chosen entries next (segment_of segments (at x k))) level ∷ below) ∷ [] }))) rest)
      (sym (untasked_value e lanes (out more)))
      (alike_after p w old (value e lanes (out more)) _ _ rest (λ x _.
      moves lanes (λ k. chosen entries next (segment_of segments (at x k))) (new x ++ more) (first_do (new x) (out more))
      (ap (λ ts. with_bone_tasks p w ts frame ∷ bones frames) (sym (append_assoc (new x) more behind))) (stand x)))

  -- ---- lanes that leave

  pub go_alike : (lanes : Lanes) (number next : StepNumber) (more new : List Task) (change : List Task → List Task) → change (more ++ behind) ≡ new ++ behind
      → TasksStand (points_in f) w back (sent_in lanes (λ k. next) level) new
      → Alike p w old (Ok (on_top (with_tasks change) (out more))) (act p number (Go next) lanes (untasked (out more)) level below) rest
  go_alike lanes number next more new change e stand =
      moves lanes (λ k. next) new (on_top (with_tasks change) (out more)) (ap (λ ts. with_bone_tasks p w ts frame ∷ bones frames) e) stand

  -- ---- foreach forms

  sized_turns : (turns : List Turn) (n : ℕ) → n ≡ w → Each (IsRoundOf n) turns → AreSized w turns
  sized_turns [] n e h = tt
  sized_turns (turn ∷ turns) n e h = (h.0 ∙ e, sized_turns turns n e h.1)

  pub begin_alike : (lanes : Lanes) (number next : StepNumber) (form : RoundsOf) (head : StepNumber) (body : Stmt) (more : List Task) → length lanes ≡ w
      → TasksStand (points_in f) w back (sent_in lanes (λ j. next) level) more
      → ((turns : List Turn) → AreSized w turns → TasksStand (points_in f) w None (begun (round_number head body) turns level.numbers) []
      × RoundsStand (points_in f) w (begun (round_number head body) turns level.numbers) body turns)
      → Alike p w old (rounds form lanes (out more) >>= (λ turns. Ok (first_do (round_tasks (round_number head body) body turns) (out more))))
      (act p number (Begin form (round_number head body) next) lanes (untasked (out more)) level below) rest
  begin_alike lanes number next form head body more e stand begins =
      let end = round_number head body in
      subst (λ r. Alike p w old (rounds form lanes (out more) >>= (λ turns. Ok (first_do (round_tasks end body turns) (out more))))
      (r >>= (λ turns. Ok (record { state = untasked (out more); levels = closed (begun end turns level.numbers ∷ sent_in lanes (λ k. next) level ∷ below) ∷ [] }))) rest)
      (sym (untasked_rounds form lanes (out more)))
      (alike_after p w old (rounds form lanes (out more)) _ _ rest (λ turns got sized.
      let all : AreSized w turns = sized_turns turns (length lanes) e (if_ok_at (Each (IsRoundOf (length lanes))) (rounds form lanes (out more)) turns got (length-rounds form lanes (out more))) in
      let new = begins turns all in
      let outer = join_levels f w (sent_in lanes (λ k. next) level) below back more behind stand (behind_numbers f w level _ below back behind stands_behind) in
      goes_on p w f frame frames (begun end turns level.numbers) (sent_in lanes (λ k. next) level ∷ below) rest (round_tasks end body turns ++ (more ++ behind)) (first_do (round_tasks end body turns) (out more))
      refl is ([], body, turns, more ++ behind, refl, new.0, new.1, outer) lower sized))
