-- A step of the source and the masked step end alike.
use Rattle.std.proofs.Common.{◌≡◌, refl, sym, ap, ◌∙◌, subst, ℕ, false, List, [], ◌∷◌, ◌++◌, Option, Some, None, length}
use Rattle.std.specs.Prelude.{map, slice_get}
use Rattle.gang_types.specs.Lanes.{no_lane, lowest}
use Rattle.gang_types.specs.LaneLaws.{lowest_has}
use Rattle.gang_model.specs.Types.Tree.{StepNumber, Arg, ResultFor, Call, Stmt, Function, Program}
use Rattle.gang_model.specs.Running.State.{Store, Run, Round, Task, Frame, State}
use Rattle.gang_model.specs.Running.Rounds.{Turn}
use Rattle.gang_model.specs.Running.Step.{task, round_tasks, perform, step_task}
use Rattle.gang_model.specs.Debugger.Events.{gone}
use Rattle.gang_model.specs.Debugger.Positions.{number_of_task}
use Rattle.gang_model.proofs.StateLanes.{TasksSized, StateSized}
use Rattle.mask_states.specs.Points.{Point, Enter, Turn as TakeTurn, entry_of, points_in, after_result}
use Rattle.mask_states.specs.Placed.{HasPoint}
use Rattle.mask_states.specs.Masked.{Level, Masked, next_in, next_waiting, closed}
use Rattle.mask_states.specs.MaskedStep.{untasked_frame, untasked, act, step_point}
use Rattle.mask_states.specs.Stands.{own, DoingFits, ways_before, BeginsWithStep, TasksStand, RoundsStand, LevelsStand, FrameStands, FramesStand, AreLowerable, EndAlike}
use Rattle.mask_states.proofs.Replaced.{fits_first}
use Rattle.mask_states.proofs.ActiveLanes.{next_is, waiting_is, next_is_end}
use Rattle.mask_states.proofs.EnterPoints.{entered_function}
use Rattle.mask_states.proofs.Levels.{StandsBehind, Split, split_levels}
use Rattle.mask_states.proofs.OpenLevels.{not_over}
use Rattle.mask_states.proofs.GoesOn.{Alike}
use Rattle.mask_states.proofs.HeadSteps.{with_top_tasks}
use Rattle.mask_states.proofs.StepForms.{HeadAlike, head_alike}
use Rattle.mask_states.proofs.CallSteps.{call_alike}
use Rattle.mask_states.proofs.TurnSteps.{turn_alike}
use Rattle.mask_states.proofs.PastCalls.{same_first, same_others}

none_some : {A : Type 0} (t : Task) (ts : List Task) → t ∷ ts ≡ [] → A
none_some t ts e = absurd cc

module _ (p : Program) (lowerable : AreLowerable p) (w : ℕ) (memory : Store) (frame : Frame) (frames : List Frame) (level : Level) (below : List Level) (rest : List (List Level))
    (f : Function) (is : slice_get p.functions frame.function ≡ Some f) (lower : FramesStand p w (Some frame) frames rest) (old : State) where
  -- the masked step of the frame
  abbrev masked_task : List Task → Masked
  masked_task tasks = record { state = with_top_tasks memory frame frames tasks; levels = (level ∷ below) ∷ rest }

  abbrev pub StepsAlike : List Task → Type 0
  StepsAlike tasks = StateSized w (gone (step_task p memory frames frame tasks) old)
      → EndAlike p w (step_task p memory frames frame tasks)
      (step_point p memory (map untasked_frame frames) (untasked_frame frame) (slice_get (points_in f) (next_in level)) level below rest)

  -- where the point is known, the two steps of a task are alike
  at_point : (t : Task) (ts : List Task) (number : StepNumber) (point : Point) → next_in level ≡ number → HasPoint (points_in f) number point
      → Alike p w old (perform p t.doing t.lanes (with_top_tasks memory frame frames ts)) (act p number point (next_waiting level) (untasked (with_top_tasks memory frame frames ts)) level below) rest
      → StepsAlike (t ∷ ts)
  at_point t ts number point e h alike =
      let out = with_top_tasks memory frame frames ts in
      subst (λ n. Alike p w old (perform p t.doing t.lanes out) (act p n point (next_waiting level) (untasked out) level below) rest → StepsAlike (t ∷ ts)) e
      (subst (λ o. Alike p w old (perform p t.doing t.lanes out) (act p (next_in level) point (next_waiting level) (untasked out) level below) rest
      → StateSized w (gone (step_task p memory frames frame (t ∷ ts)) old)
      → EndAlike p w (step_task p memory frames frame (t ∷ ts)) (step_point p memory (map untasked_frame frames) (untasked_frame frame) o level below rest))
      (sym (ap (slice_get (points_in f)) e ∙ h)) (λ a. a)) alike

  -- ---- a task of the innermost level

  head_step : (back : Option StepNumber) (t : Task) (more behind : List Task) → TasksStand (points_in f) w back level (t ∷ more) → StandsBehind f w level below back behind
      → BeginsWithStep (t ∷ more) → length t.lanes ≡ w → FrameStands p w None (record frame { tasks = t ∷ (more ++ behind) }) (level ∷ below) → StepsAlike (t ∷ (more ++ behind))
  head_step back t more behind s b begins sized whole =
      let number = number_of_task t.doing in
      let out = with_top_tasks memory frame frames (more ++ behind) in
      let call : (number : StepNumber) (n : ℕ) (args : List Arg) (result_for : ResultFor) → t.doing ≡ Run (Call number n args result_for)
      → HeadAlike p w f memory frame frames level below rest back behind is b lower old t.lanes more sized begins.0 t.doing =
      λ number n args result_for e. call_head number n args result_for e in
      let alike = head_alike p w f memory frame frames level below rest back behind is b lower old t.lanes more sized begins.0 t.doing begins.1 call s in
      at_point t (more ++ behind) number alike.0 (next_is (points_in f) w back level t more s sized begins) alike.1
      (subst (λ lanes. Alike p w old (perform p t.doing t.lanes out) (act p number alike.0 lanes (untasked out) level below) rest) (sym (waiting_is (points_in f) w back level t more s sized begins)) alike.2)
    where
      call_head : (number : StepNumber) (n : ℕ) (args : List Arg) (result_for : ResultFor) → t.doing ≡ Run (Call number n args result_for)
          → HeadAlike p w f memory frame frames level below rest back behind is b lower old t.lanes more sized begins.0 t.doing
      call_head number n args result_for e =
          let k = lowest t.lanes in
          let here = (fits_first (points_in f) w back level.end k t more (s.fits k) (lowest_has t.lanes begins.0)).0 in
          let next = after_result result_for (ways_before back level.end (own k more)) in
          let placed = subst (λ doing. DoingFits (points_in f) doing (ways_before back level.end (own k more))) e here in
          let found = entered_function p lowerable frame.function f is number n args result_for next placed.1 in
          let caller = subst (λ doing. FrameStands p w None (record frame { tasks = task doing t.lanes ∷ (more ++ behind) }) (level ∷ below)) e whole in
          subst (HeadAlike p w f memory frame frames level below rest back behind is b lower old t.lanes more sized begins.0) (sym e)
          (Enter n args result_for next, placed.1, call_alike p lowerable w memory frame frames level below rest lower old t.lanes (more ++ behind) sized number n args result_for found.0 found.1 caller next)

  -- ---- the next round, or a task

  -- no task of the innermost level is left: its form goes on with a round
  round_step : (back : Option StepNumber) (behind : List Task) → TasksStand (points_in f) w back level [] → StandsBehind f w level below back behind → BeginsWithStep behind
      → closed (level ∷ below) ≡ level ∷ below → (t : Task) (ts : List Task) → t ∷ ts ≡ behind → StepsAlike (t ∷ ts)
  round_step back behind idle b begins is_closed t ts whole = by_below below refl b is_closed
    where
      by_turns : (next : Level) (lower_levels : List Level) → below ≡ next ∷ lower_levels → (body : Stmt) (turns : List Turn) (later : List Task) → behind ≡ round_tasks level.end body turns ++ later
          → back ≡ None → RoundsStand (points_in f) w level body turns → LevelsStand f w (next ∷ lower_levels) later → closed (level ∷ next ∷ lower_levels) ≡ level ∷ next ∷ lower_levels → StepsAlike (t ∷ ts)
      by_turns next lower_levels e body [] later d none rounds levels c =
          absurd (not_over level next lower_levels c (sym rounds.taken) (next_is_end (points_in f) w back level idle))
      by_turns next lower_levels e body (turn ∷ turns) later d none rounds levels c =
          let first : t ≡ task (Round level.end turn.indices body) turn.lanes = same_first t _ ts _ (whole ∙ d) in
          let others : ts ≡ round_tasks level.end body turns ++ later = same_others t _ ts _ (whole ∙ d) in
          let here : TasksStand (points_in f) w None level [] = subst (λ o. TasksStand (points_in f) w o level []) none idle in
          let some : no_lane turn.lanes ≡ false = (subst BeginsWithStep d begins).0 in
          let alike = subst (λ levels_below. Alike p w old (perform p (Round level.end turn.indices body) turn.lanes (with_top_tasks memory frame frames (round_tasks level.end body turns ++ later)))
          (act p level.end (TakeTurn (entry_of body level.end)) (next_waiting level) (untasked (with_top_tasks memory frame frames (round_tasks level.end body turns ++ later))) level levels_below) rest) (sym e)
          (turn_alike p w f memory frame frames level next lower_levels rest is lower old turn turns body later some here rounds levels level.end (next_waiting level)) in
          subst (λ us. StepsAlike us) (sym (ap (λ u. u ∷ ts) first ∙ ap (λ us. task (Round level.end turn.indices body) turn.lanes ∷ us) others))
          (at_point (task (Round level.end turn.indices body) turn.lanes) (round_tasks level.end body turns ++ later) level.end (TakeTurn (entry_of body level.end)) (next_is_end (points_in f) w back level idle) rounds.turn alike)

      by_below : (levels_below : List Level) → levels_below ≡ below → StandsBehind f w level levels_below back behind → closed (level ∷ levels_below) ≡ level ∷ levels_below → StepsAlike (t ∷ ts)
      by_below [] e (back_is, end_is, turns_none, none) c = none_some t ts (whole ∙ none)
      by_below (next ∷ lower_levels) e (none, body, turns, later, d, rounds, levels) c = by_turns next lower_levels (sym e) body turns later d none rounds levels c

  pub tasks_step : (t : Task) (ts : List Task) → LevelsStand f w (level ∷ below) (t ∷ ts) → BeginsWithStep (t ∷ ts) → closed (level ∷ below) ≡ level ∷ below → TasksSized w (t ∷ ts)
      → FrameStands p w None (record frame { tasks = t ∷ ts }) (level ∷ below) → StepsAlike (t ∷ ts)
  tasks_step t ts stands begins is_closed sized whole = by_now parts.now refl
    where
      parts : Split f w level below (t ∷ ts)
      parts = split_levels f w level below (t ∷ ts) stands

      by_now : (now : List Task) → parts.now ≡ now → StepsAlike (t ∷ ts)
      by_now [] e =
          let behind_all : t ∷ ts ≡ parts.behind = parts.whole ∙ ap (λ now. now ++ parts.behind) e in
          round_step parts.back parts.behind (subst (λ now. TasksStand (points_in f) w parts.back level now) e parts.stand) parts.stand_behind (subst BeginsWithStep behind_all begins) is_closed t ts behind_all
      by_now (h ∷ more) e =
          let all : t ∷ ts ≡ h ∷ (more ++ parts.behind) = parts.whole ∙ ap (λ now. now ++ parts.behind) e in
          let first : t ≡ h = same_first t h ts (more ++ parts.behind) all in
          subst (λ us. StepsAlike us) (sym all)
          (head_step parts.back h more parts.behind (subst (λ now. TasksStand (points_in f) w parts.back level now) e parts.stand) parts.stand_behind
          (subst BeginsWithStep (ap (λ u. u ∷ more) first) begins) (ap (λ u. length u.lanes) (sym first) ∙ sized.0)
          (subst (λ us. FrameStands p w None (record frame { tasks = us }) (level ∷ below)) all whole))
