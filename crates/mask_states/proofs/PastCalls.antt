-- The levels of a caller go on past its call once the frame that it made is left.
use Rattle.std.proofs.Common.{◌≡◌, refl, sym, ap, ◌∙◌, subst, ℕ, true, false, List, [], ◌∷◌, ◌++◌, Option, Some, length}
use Rattle.std.specs.Prelude.{map, slice_get, unwrap_or}
use Rattle.std.proofs.lemmas.List.{append-nil}
use Rattle.gang_types.specs.Lanes.{has, no_lane, lowest}
use Rattle.gang_types.specs.LaneLaws.{lowest_has}
use Rattle.gang_model.specs.Types.Tree.{StepNumber, Arg, ResultFor, Nothing, Declares, Assigns, Returns, Stmt, Call, Function, Program}
use Rattle.gang_model.specs.Running.State.{Run, Round, Task, Frame}
use Rattle.gang_model.specs.Running.Rounds.{Turn}
use Rattle.gang_model.specs.Running.Step.{task, leaves_task, round_tasks}
use Rattle.mask_states.specs.Points.{Enter, Ways, after_result, points_in, closing_number}
use Rattle.mask_states.specs.Placed.{HasPoint, MayReturn}
use Rattle.mask_states.specs.Masked.{Level, next_in, next_waiting, sent_in, closed}
use Rattle.mask_states.specs.MaskedStep.{past_point, past_call}
use Rattle.mask_states.specs.Stands.{own, waits, DoingFits, ways_before, BeginsWithStep, IsPending, TasksStand, RoundsStand, LevelsStand, FrameStands}
use Rattle.mask_states.proofs.ActiveLanes.{next_is, waiting_is, next_is_end}
use Rattle.mask_states.proofs.Bones.{IsKept}
use Rattle.mask_states.proofs.LeavingHeads.{put_stands, leaves_stand}
use Rattle.mask_states.proofs.Levels.{StandsBehind, split_levels, join_levels, behind_numbers}
use Rattle.mask_states.proofs.OpenLevels.{not_over}
use Rattle.mask_states.proofs.Replaced.{fits_first}
use Rattle.std.proofs.lemmas.Option.{same_Some, none-some}

-- ---- where a result leads

-- a result is kept by the caller, or is the caller's own
pub by_result : {P : Type 0} → (r : ResultFor) → (IsKept r → P) → (r ≡ Returns → P) → P
by_result Nothing kept returned = kept tt
by_result (Declares v) kept returned = kept tt
by_result (Assigns v) kept returned = kept tt
by_result Returns kept returned = returned refl

-- where the lanes of a call go on, by its result
kept_next : (r : ResultFor) (ways : Ways) → IsKept r → after_result r ways ≡ ways.next
kept_next Nothing ways kept = refl
kept_next (Declares v) ways kept = refl
kept_next (Assigns v) ways kept = refl
kept_next Returns ways kept = absurd kept

returned_next : (r : ResultFor) (ways : Ways) → r ≡ Returns → MayReturn r ways → (n : StepNumber) × (ways.on_return ≡ Some n) × (after_result r ways ≡ n)
returned_next Nothing ways e may = absurd cc
returned_next (Declares v) ways e may = absurd cc
returned_next (Assigns v) ways e may = absurd cc
returned_next Returns ways e may = (may.0, may.1, ap (λ o. unwrap_or o ways.next) may.1)

enter_same : (n : ℕ) (args : List Arg) (r : ResultFor) (a b : StepNumber) → Enter n args r a ≡ Enter n args r b → a ≡ b
enter_same n args r a b e = cc

-- a call's lanes return out of a function's body alone
returns_to_end : (f : Function) (w : ℕ) (level : Level) (below : List Level) (back : Option StepNumber) (behind : List Task) (n : StepNumber)
    → StandsBehind f w level below back behind → back ≡ Some n → (below ≡ []) × (behind ≡ []) × (n ≡ closing_number f) × (level.end ≡ closing_number f) × (level.turns ≡ [])
returns_to_end f w level [] back behind n b e = (refl, b.3, same_Some n (closing_number f) (sym e ∙ b.0), b.1, b.2)
returns_to_end f w level (next ∷ below) back behind n b e = absurd (none-some n (sym b.0 ∙ e))

-- ---- the first of a frame's tasks

pub same_first : (t u : Task) (ts us : List Task) → t ∷ ts ≡ u ∷ us → t ≡ u
same_first t u ts us e = cc

pub same_others : (t u : Task) (ts us : List Task) → t ∷ ts ≡ u ∷ us → ts ≡ us
same_others t u ts us e = cc

-- a statement is no round
run_round : (s : Stmt) (number : StepNumber) (turn : Turn) (body : Stmt) → Run s ≡ Round number turn.indices body → ⊥
run_round s number turn body e = cc

-- a statement does not stand behind the innermost level's tasks, if the levels are closed
module _ (f : Function) (w : ℕ) (t : Task) (s : Stmt) (ts : List Task) (is_run : t.doing ≡ Run s) where
  rounds_first : (level next : Level) (below : List Level) (body : Stmt) (turns : List Turn) (rest : List Task) → RoundsStand (points_in f) w level body turns
      → t ∷ ts ≡ round_tasks level.end body turns ++ rest → closed (level ∷ next ∷ below) ≡ level ∷ next ∷ below → next_in level ≡ level.end → ⊥
  rounds_first level next below body [] rest rounds e c idle = not_over level next below c (sym rounds.taken) idle
  rounds_first level next below body (turn ∷ turns) rest rounds e c idle =
      let head : t ≡ task (Round level.end turn.indices body) turn.lanes =
      same_first t (task (Round level.end turn.indices body) turn.lanes) ts (round_tasks level.end body turns ++ rest) e in
      run_round s level.end turn body (sym is_run ∙ ap (λ u. u.doing) head)

  behind_first : (level : Level) (below : List Level) (back : Option StepNumber) (behind : List Task) → StandsBehind f w level below back behind
      → t ∷ ts ≡ behind → closed (level ∷ below) ≡ level ∷ below → next_in level ≡ level.end → ⊥
  behind_first level [] back behind b e c idle = some_none (e ∙ b.3)
    where
      some_none : t ∷ ts ≡ [] → ⊥
      some_none q = cc
  behind_first level (next ∷ below) back behind (none, body, turns, rest, same, rounds, lower) e c idle =
      rounds_first level next below body turns rest rounds (e ∙ same) c idle

-- a statement that is a frame's first task is one of its innermost level
pub record FirstOf (f : Function) (w : ℕ) (level : Level) (below : List Level) (t : Task) (ts : List Task) : Type 0 where
  pub back : Option StepNumber
  pub more : List Task
  pub behind : List Task
  pub others : ts ≡ more ++ behind
  pub stand : TasksStand (points_in f) w back level (t ∷ more)
  pub stand_behind : StandsBehind f w level below back behind

pub first_of_level : (f : Function) (w : ℕ) (level : Level) (below : List Level) (t : Task) (s : Stmt) (ts : List Task) → t.doing ≡ Run s → LevelsStand f w (level ∷ below) (t ∷ ts)
    → closed (level ∷ below) ≡ level ∷ below → FirstOf f w level below t ts
first_of_level f w level below t s ts is_run stands c =
    let parts = split_levels f w level below (t ∷ ts) stands in
    by_now parts.back parts.now parts.behind parts.whole parts.stand parts.stand_behind
  where
    by_now : (back : Option StepNumber) (now behind : List Task) → t ∷ ts ≡ now ++ behind → TasksStand (points_in f) w back level now
        → StandsBehind f w level below back behind → FirstOf f w level below t ts
    by_now back [] behind e stand b = absurd (behind_first f w t s ts is_run level below back behind b e c (next_is_end (points_in f) w back level stand))
    by_now back (u ∷ more) behind e stand b = record {
      back = back;
      more = more;
      behind = behind;
      others = same_others t u ts (more ++ behind) e;
      stand = subst (λ x. TasksStand (points_in f) w back level (x ∷ more)) (sym (same_first t u ts (more ++ behind) e)) stand;
      stand_behind = b;
    }

-- ---- past a call

-- when the frame above is left, the lanes of its call go on, and the levels stand for the frame's tasks, without these lanes where the result is its own
pub record GoesPast (f : Function) (w : ℕ) (above : Frame) (level : Level) (below : List Level) (tasks : List Task) : Type 0 where
  pub args : List Arg
  pub next : StepNumber
  pub point : HasPoint (points_in f) (next_in level) (Enter above.function args above.result_for next)
  pub waiting : next_waiting level ≡ above.lanes
  pub past : past_call (points_in f) (level ∷ below) ≡ closed (sent_in above.lanes (λ k. next) level ∷ below)
  pub kept : IsKept above.result_for → LevelsStand f w (sent_in above.lanes (λ k. next) level ∷ below) tasks
  pub returned : above.result_for ≡ Returns
      → (below ≡ []) × (next ≡ level.end) × (next ≡ closing_number f) × LevelsStand f w (sent_in above.lanes (λ k. next) level ∷ []) (map (leaves_task above.lanes) tasks)

-- the same where the call is the first task of the innermost level
module _ (f : Function) (w : ℕ) (above : Frame) (level : Level) (below : List Level) (number : StepNumber) (args : List Arg) (sized : length above.lanes ≡ w) (some : no_lane above.lanes ≡ false) where
  abbrev call_task : Task
  call_task = task (Run (Call number above.function args above.result_for)) above.lanes

  module _ (back : Option StepNumber) (more behind : List Task) (stand : TasksStand (points_in f) w back level (call_task ∷ more)) (stand_behind : StandsBehind f w level below back behind) where
    abbrev k : ℕ
    k = lowest above.lanes

    abbrev ways : Ways
    ways = ways_before back level.end (own k more)

    abbrev next : StepNumber
    next = after_result above.result_for ways

    here : (j : ℕ) → has above.lanes j ≡ true → DoingFits (points_in f) (Run (Call number above.function args above.result_for)) (ways_before back level.end (own j more))
    here j h = (fits_first (points_in f) w back level.end j call_task more (stand.fits j) h).0

    at_number : next_in level ≡ number
    at_number = next_is (points_in f) w back level call_task more stand sized (some, tt)

    at_lanes : next_waiting level ≡ above.lanes
    at_lanes = waiting_is (points_in f) w back level call_task more stand sized (some, tt)

    has_enter : HasPoint (points_in f) (next_in level) (Enter above.function args above.result_for next)
    has_enter = ap (slice_get (points_in f)) at_number ∙ (here k (lowest_has above.lanes some)).1

    goes_past : past_call (points_in f) (level ∷ below) ≡ closed (sent_in above.lanes (λ j. next) level ∷ below)
    goes_past = ap (λ o. past_point o level below) has_enter ∙ ap (λ lanes. closed (sent_in lanes (λ j. next) level ∷ below)) at_lanes

    stands_kept : IsKept above.result_for → LevelsStand f w (sent_in above.lanes (λ j. next) level ∷ below) (more ++ behind)
    stands_kept kept =
        let there : (j : ℕ) → has above.lanes j ≡ true → HasPoint (points_in f) number (Enter above.function args above.result_for (waits level.end (own j more))) =
        λ j h. subst (λ n. HasPoint (points_in f) number (Enter above.function args above.result_for n))
        (kept_next above.result_for (ways_before back level.end (own j more)) kept) (here j h).1 in
        let moved = put_stands (points_in f) w back level call_task more stand sized number (Enter above.function args above.result_for)
        (enter_same above.function args above.result_for) there k (lowest_has above.lanes some) in
        let stand_now : TasksStand (points_in f) w back (sent_in above.lanes (λ j. next) level) more =
        subst (λ n. TasksStand (points_in f) w back (sent_in above.lanes (λ j. n) level) more) (sym (kept_next above.result_for ways kept)) moved.1 in
        join_levels f w (sent_in above.lanes (λ j. next) level) below back more behind stand_now (behind_numbers f w level _ below back behind stand_behind)

    stands_returned : (tasks : List Task) → tasks ≡ more ++ behind → above.result_for ≡ Returns
        → (below ≡ []) × (next ≡ level.end) × (next ≡ closing_number f) × LevelsStand f w (sent_in above.lanes (λ j. next) level ∷ []) (map (leaves_task above.lanes) tasks)
    stands_returned tasks same e =
        let leads = returned_next above.result_for ways e (here k (lowest_has above.lanes some)).0 in
        let out = returns_to_end f w level below back behind leads.0 stand_behind leads.1 in
        let to_end : next ≡ level.end = leads.2 ∙ out.2 ∙ sym out.3 in
        let all : tasks ≡ more = same ∙ ap (λ ts. more ++ ts) out.1 ∙ append-nil more in
        let moved : TasksStand (points_in f) w back (sent_in above.lanes (λ j. next) level) (map (leaves_task above.lanes) more) =
        subst (λ n. TasksStand (points_in f) w back (sent_in above.lanes (λ j. n) level) (map (leaves_task above.lanes) more)) (sym to_end)
        (leaves_stand (points_in f) w back level call_task more stand sized) in
        let outermost : back ≡ Some (closing_number f) = leads.1 ∙ ap Some out.2 in
        let stand_now : TasksStand (points_in f) w (Some (closing_number f)) (sent_in above.lanes (λ j. next) level) (map (leaves_task above.lanes) more) =
        subst (λ o. TasksStand (points_in f) w o (sent_in above.lanes (λ j. next) level) (map (leaves_task above.lanes) more)) outermost moved in (
          out.0,
          to_end,
          leads.2 ∙ out.2,
          subst (λ ts. LevelsStand f w (sent_in above.lanes (λ j. next) level ∷ []) (map (leaves_task above.lanes) ts)) (sym all) (stand_now, out.3, out.4),
        )

    past_of : (tasks : List Task) → tasks ≡ more ++ behind → GoesPast f w above level below tasks
    past_of tasks same = record {
      args = args;
      next = next;
      point = has_enter;
      waiting = at_lanes;
      past = goes_past;
      kept = λ kept. subst (λ ts. LevelsStand f w (sent_in above.lanes (λ j. next) level ∷ below) ts) (sym same) (stands_kept kept);
      returned = stands_returned tasks same;
    }

-- a frame that waits in the call of the frame above
pub call_goes_on : (p : Program) (w : ℕ) (above frame : Frame) (level : Level) (below : List Level) → (s : FrameStands p w (Some above) frame (level ∷ below)) → length above.lanes ≡ w
    → GoesPast s.function w above level below frame.tasks
call_goes_on p w above frame level below s sized =
    by_pending s.function s.pending s.is_pending s.begins s.stands
  where
    by_pending : (f : Function) (pending : List Task) → IsPending (Some above) frame.tasks pending → BeginsWithStep pending → LevelsStand f w (level ∷ below) pending
        → GoesPast f w above level below frame.tasks
    by_pending f pending (number, args, call, all) begins stands =
        let t : Task = task (Run (Call number above.function args above.result_for)) above.lanes in
        let begins_now : BeginsWithStep (t ∷ frame.tasks) = subst BeginsWithStep all begins in
        let first = first_of_level f w level below t (Call number above.function args above.result_for) frame.tasks refl
        (subst (LevelsStand f w (level ∷ below)) all stands) s.is_closed in
        past_of f w above level below number args sized begins_now.0 first.back first.more first.behind first.stand first.stand_behind frame.tasks first.others
