-- The innermost level of a frame and what stands behind it; settling a frame's tasks closes the forms that are over.
use Rattle.std.proofs.Common.{◌≡◌, refl, sym, ap, ◌∙◌, subst, ℕ, ◌<◌, Bool, true, false, List, [], ◌∷◌, ◌++◌, Option, Some, None, length, arith}
use Rattle.std.proofs.lemmas.Bool.{ne_eqb}
use Rattle.std.specs.Prelude.{◌==◌, ◌&&◌, not, if◌then◌else◌}
use Rattle.gang_model.specs.Types.Tree.{StepNumber, Stmt, Function}
use Rattle.gang_model.specs.Running.State.{Round, Task}
use Rattle.gang_model.specs.Running.Rounds.{Turn}
use Rattle.gang_model.specs.Running.Step.{task, settled, round_tasks}
use Rattle.gang_model.proofs.StateLanes.{TasksSized}
use Rattle.mask_states.specs.Points.{points_in, closing_number}
use Rattle.mask_states.specs.Masked.{Level, next_in, no_turn, is_over, closed, turns_taken}
use Rattle.mask_states.specs.Stands.{BeginsWithStep, TasksStand, RoundsStand, LevelsStand}
use Rattle.mask_states.proofs.Settling.{settled_begins, settled_stands}
use Rattle.mask_states.proofs.SettledLists.{settled_append_none, settled_append_some, settled_no_round, settled_rounds, FirstRound}
use Rattle.mask_states.proofs.OpenLevels.{over_form, open_form, nothing_to_come}
use Rattle.mask_states.proofs.ActiveLanes.{next_below, level_idle}

-- ---- what stands behind the tasks of the innermost level

-- nothing behind a function's body; behind a foreach form its rounds to come, and the tasks of the levels below
abbrev pub StandsBehind : Function → ℕ → Level → List Level → Option StepNumber → List Task → Type 0
StandsBehind f w level [] back behind = (back ≡ Some (closing_number f)) × (level.end ≡ closing_number f) × (level.turns ≡ []) × (behind ≡ [])
StandsBehind f w level (next ∷ below) back behind =
    (back ≡ None) × (body : Stmt) × (turns : List Turn) × (rest : List Task) × (behind ≡ round_tasks level.end body turns ++ rest)
    × RoundsStand (points_in f) w level body turns × LevelsStand f w (next ∷ below) rest

-- the tasks of a frame in two parts
pub record Split (f : Function) (w : ℕ) (level : Level) (below : List Level) (tasks : List Task) : Type 0 where
  pub back : Option StepNumber
  pub now : List Task
  pub behind : List Task
  pub whole : tasks ≡ now ++ behind
  pub stand : TasksStand (points_in f) w back level now
  pub stand_behind : StandsBehind f w level below back behind

append_none : (xs : List Task) → xs ≡ xs ++ []
append_none [] = refl
append_none (x ∷ xs) = ap (λ ys. x ∷ ys) (append_none xs)

pub split_levels : (f : Function) (w : ℕ) (level : Level) (below : List Level) (tasks : List Task) → LevelsStand f w (level ∷ below) tasks → Split f w level below tasks
split_levels f w level [] tasks s = record {
  back = Some (closing_number f);
  now = tasks;
  behind = [];
  whole = append_none tasks;
  stand = s.0;
  stand_behind = (refl, s.1, s.2, refl);
}
split_levels f w level (next ∷ below) tasks (now, body, turns, rest, e, stand, rounds, lower) = record {
  back = None;
  now = now;
  behind = round_tasks level.end body turns ++ rest;
  whole = e;
  stand = stand;
  stand_behind = (refl, body, turns, rest, refl, rounds, lower);
}

pub join_levels : (f : Function) (w : ℕ) (level : Level) (below : List Level) (back : Option StepNumber) (now behind : List Task)
    → TasksStand (points_in f) w back level now → StandsBehind f w level below back behind → LevelsStand f w (level ∷ below) (now ++ behind)
join_levels f w level [] back now behind s b =
    let here : TasksStand (points_in f) w (Some (closing_number f)) level now = subst (λ o. TasksStand (points_in f) w o level now) b.0 s in
    subst (λ ts. LevelsStand f w (level ∷ []) ts) (append_none now ∙ sym (ap (λ ts. now ++ ts) b.3)) (here, b.1, b.2)
join_levels f w level (next ∷ below) back now behind s (none, body, turns, rest, e, rounds, lower) =
    let here : TasksStand (points_in f) w None level now = subst (λ o. TasksStand (points_in f) w o level now) none s in
    (now, body, turns, rest, ap (λ ts. now ++ ts) e, here, rounds, lower)

-- what stands behind does not hang on the numbers
rounds_of_numbers : (f : Function) (w : ℕ) (level : Level) (numbers : List StepNumber) (body : Stmt) (turns : List Turn)
    → RoundsStand (points_in f) w level body turns → RoundsStand (points_in f) w (record level { numbers = numbers }) body turns
rounds_of_numbers f w level numbers body turns r = record {
  taken = r.taken;
  sized = r.sized;
  turn = r.turn;
  body_placed = r.body_placed;
  first = r.first;
  numbered = r.numbered;
  above = r.above;
}

pub behind_numbers : (f : Function) (w : ℕ) (level : Level) (numbers : List StepNumber) (below : List Level) (back : Option StepNumber) (behind : List Task)
    → StandsBehind f w level below back behind → StandsBehind f w (record level { numbers = numbers }) below back behind
behind_numbers f w level numbers [] back behind b = b
behind_numbers f w level numbers (next ∷ below) back behind (none, body, turns, rest, e, rounds, lower) =
    (none, body, turns, rest, e, rounds_of_numbers f w level numbers body turns rounds, lower)

-- ---- settling

-- a frame's levels stand for settled tasks, and no form that is over is among them
pub record Settles (f : Function) (w : ℕ) (levels : List Level) (tasks : List Task) : Type 0 where
  pub stand : LevelsStand f w levels tasks
  pub begins : BeginsWithStep tasks
  pub is_closed : closed levels ≡ levels

and_false : (a b : Bool) → b ≡ false → (a && b) ≡ false
and_false true b h = h
and_false false b h = refl

-- a form with a round to come is not over, nor one with a lane in its round
turn_to_come : (level : Level) (turn : Turn) (more : List Turn) → level.turns ≡ turn ∷ more → is_over level ≡ false
turn_to_come level turn more h = ap (λ turns. no_turn turns && (next_in level == level.end)) h

lane_to_come : (level : Level) → next_in level < level.end → is_over level ≡ false
lane_to_come level h = and_false (no_turn level.turns) (next_in level == level.end) (ne_eqb (next_in level) level.end (λ e. omega (arith, h, e)))

-- the levels of a form that is not over
stays : (f : Function) (w : ℕ) (level next : Level) (below : List Level) (tasks : List Task) → is_over level ≡ false → LevelsStand f w (level ∷ next ∷ below) tasks → BeginsWithStep tasks
    → Settles f w (closed (level ∷ next ∷ below)) tasks
stays f w level next below tasks h stand begins =
    let e : closed (level ∷ next ∷ below) ≡ level ∷ next ∷ below = open_form level next below h in
    subst (λ levels. Settles f w levels tasks) (sym e) (record { stand = stand; begins = begins; is_closed = e })

-- a form whose round is under way, whose rounds are to come, or which is over: then the levels below it decide
module _ (f : Function) (w : ℕ) (level next : Level) (below : List Level) (tasks now : List Task) (body : Stmt) (turns : List Turn) (rest : List Task)
    (e : tasks ≡ now ++ (round_tasks level.end body turns ++ rest)) (stand : TasksStand (points_in f) w None level now)
    (rounds : RoundsStand (points_in f) w level body turns) (lower : LevelsStand f w (next ∷ below) rest) (sized : TasksSized w (settled tasks))
    (settle_lower : TasksSized w (settled rest) → Settles f w (closed (next ∷ below)) (settled rest)) where
  by_turns : (taken : List Turn) → turns_taken turns ≡ taken → settled now ≡ [] → Settles f w (closed (level ∷ next ∷ below)) (settled tasks)
  by_turns [] none idle =
      let same : settled tasks ≡ settled rest =
      ap settled e ∙ settled_append_none now (round_tasks level.end body turns ++ rest) idle ∙ settled_no_round level.end body rest turns none in
      let over : is_over level ≡ true = nothing_to_come level (sym rounds.taken ∙ none) (level_idle (points_in f) w None level now stand idle) in
      subst (λ levels. Settles f w levels (settled tasks)) (sym (over_form level next below over))
      (subst (λ ts. Settles f w (closed (next ∷ below)) ts) (sym same) (settle_lower (subst (TasksSized w) same sized)))
  by_turns (turn ∷ more) some idle =
      let first : FirstRound level.end body rest turns turn more = settled_rounds level.end body rest more turns turn some in
      let same : settled tasks ≡ task (Round level.end turn.indices body) turn.lanes ∷ (round_tasks level.end body first.later ++ rest) =
      ap settled e ∙ settled_append_none now (round_tasks level.end body turns ++ rest) idle ∙ first.first in
      let turns_now : turns_taken (turn ∷ first.later) ≡ level.turns =
      ap (λ b. if not b then turn ∷ turns_taken first.later else turns_taken first.later) first.some ∙ ap (λ ts. turn ∷ ts) first.taken ∙ sym some ∙ rounds.taken in
      let here : TasksStand (points_in f) w None level [] =
      subst (λ ts. TasksStand (points_in f) w None level ts) idle (settled_stands (points_in f) w None level now stand) in
      let rounds_now : RoundsStand (points_in f) w level body (turn ∷ first.later) = record {
        taken = turns_now;
        sized = first.sized w rounds.sized;
        turn = rounds.turn;
        body_placed = rounds.body_placed;
        first = rounds.first;
        numbered = rounds.numbered;
        above = rounds.above;
      } in
      subst (λ ts. Settles f w (closed (level ∷ next ∷ below)) ts) (sym same)
      (stays f w level next below (task (Round level.end turn.indices body) turn.lanes ∷ (round_tasks level.end body first.later ++ rest)) (turn_to_come level turn more (sym rounds.taken ∙ some))
      ([], body, turn ∷ first.later, rest, refl, here, rounds_now, lower) (first.some, tt))

  by_now : (tasks_now : List Task) → settled now ≡ tasks_now → Settles f w (closed (level ∷ next ∷ below)) (settled tasks)
  by_now [] idle = by_turns (turns_taken turns) refl idle
  by_now (t ∷ ts) busy =
      let behind : List Task = round_tasks level.end body turns ++ rest in
      let same : settled tasks ≡ t ∷ (ts ++ behind) = ap settled e ∙ settled_append_some now behind t ts busy in
      let here : TasksStand (points_in f) w None level (t ∷ ts) =
      subst (λ us. TasksStand (points_in f) w None level us) busy (settled_stands (points_in f) w None level now stand) in
      let begins : BeginsWithStep (t ∷ ts) = subst BeginsWithStep busy (settled_begins (points_in f) None level.end now stand.fits) in
      let lanes : length t.lanes ≡ w = (subst (TasksSized w) same sized).0 in
      subst (λ us. Settles f w (closed (level ∷ next ∷ below)) us) (sym same)
      (stays f w level next below (t ∷ (ts ++ behind)) (lane_to_come level (next_below (points_in f) w None level t ts here lanes begins)) (t ∷ ts, body, turns, rest, refl, here, rounds, lower) begins)

-- where a frame's levels stand for its tasks, those that are not over stand for its settled tasks
pub settle_levels : (f : Function) (w : ℕ) (level : Level) (below : List Level) (tasks : List Task) → LevelsStand f w (level ∷ below) tasks → TasksSized w (settled tasks)
    → Settles f w (closed (level ∷ below)) (settled tasks)
settle_levels f w level [] tasks s sized = record {
  stand = (settled_stands (points_in f) w (Some (closing_number f)) level tasks s.0, s.1, s.2);
  begins = settled_begins (points_in f) (Some (closing_number f)) level.end tasks s.0.fits;
  is_closed = refl;
}
settle_levels f w level (next ∷ below) tasks (now, body, turns, rest, e, stand, rounds, lower) sized =
    by_now f w level next below tasks now body turns rest e stand rounds lower sized (settle_levels f w next below rest lower) (settled now) refl
