-- The least number of a level is that of its first task, and the lanes that wait for it are the task's.
use Rattle.std.proofs.Common.{◌≡◌, refl, sym, ap, ◌∙◌, subst, ℕ, ◌+◌, ◌<◌, ◌≤◌, true, false, List, [], ◌∷◌, length, Option, arith, ⊎_elim}
use Rattle.std.proofs.lemmas.Bool.{eq-eqb, ne_eqb, cases_lt}
use Rattle.gang_types.specs.Lanes.{has, lowest}
use Rattle.gang_types.specs.LaneLaws.{same_lanes, has_past, lowest_has, lowest-lt}
use Rattle.gang_model.specs.Types.Tree.{StepNumber, Stmt, Empty, Then, If, Loop, BodyFirst, Switch, Segment, ForEach}
use Rattle.gang_model.specs.Running.Lanes.{at}
use Rattle.gang_model.specs.Running.State.{Doing, Run, LoopTest, LoopUpdate, Round, RoundEnd, SwitchEnd, Task}
use Rattle.gang_model.specs.Running.Step.{steps_of, settled}
use Rattle.gang_model.specs.Running.RunningOrder.{IsNumbered, IsNumberedTask, first_number, past_number, InOrder}
use Rattle.gang_model.specs.Debugger.Positions.{number_of, number_of_task}
use Rattle.gang_model.proofs.StateLanes.{TasksSized}
use Rattle.mask_states.specs.Points.{Point, entry_of}
use Rattle.mask_states.specs.Masked.{Level, next_in, next_waiting}
use Rattle.mask_states.specs.Stands.{own, waits, ways_before, DoingFits, IsStepStmt, IsStep, BeginsWithStep, TasksStand}
use Rattle.mask_states.proofs.OwnTasks.{by_bool, own_here, own_away}
use Rattle.mask_states.proofs.LaneNumbers.{length-waiting_for, has-waiting_for, least_at_most, least_below, least_above}
use Rattle.gang_model.proofs.TaskOrder.{first_past}
use Rattle.mask_states.proofs.Replaced.{fits_first}
use Rattle.mask_states.proofs.Settling.{settled_begins, settled_stands}

-- ---- numbers from one on

-- the first step of a statement has none of the numbers before it
pub entry_from : (s : Stmt) (n next : ℕ) → IsNumbered n s → n + steps_of s ≤ next → n ≤ entry_of s next
entry_from Empty n next h above = omega (arith, above)
entry_from (Then first rest) n next h above = entry_from first n (entry_of rest next) h.0 (entry_from rest (n + steps_of first) next h.1 (omega (arith, above)))
entry_from (Segment label body rest) n next h above = entry_from body n (entry_of rest next) h.0 (entry_from rest (n + steps_of body) next h.1 (omega (arith, above)))
entry_from (BodyFirst number test body) n next h above = entry_from body n number h.1 (omega (arith, h.0))
entry_from (Loop number test update body) n next h above = omega (arith, h.0)
entry_from (If number test first other) n next h above = omega (arith, h.0)
entry_from (Switch number e segments) n next h above = omega (arith, h.0)
entry_from (ForEach number form body) n next h above = omega (arith, h.0)
entry_from s n next h above = omega (arith, h)

module _ (end : StepNumber) where
  -- nor has that of a task
  pub task_from : (doing : Doing) (n : ℕ) (ds : List Doing) → IsNumberedTask n doing → past_number doing n ≤ waits end ds → first_number doing n ≤ waits end (doing ∷ ds)
  task_from (Run s) n ds h above = entry_from s n (waits end ds) h above
  task_from (LoopUpdate s) n ds h above = entry_from s n (waits end ds) h above
  task_from (LoopTest number test update body) n ds h above = omega arith
  task_from (Round number indices body) n ds h above = omega arith
  task_from RoundEnd n ds h above = above
  task_from SwitchEnd n ds h above = above

  -- no lane waits for a number before those of the tasks
  pub waits_from : (k from : ℕ) (ts : List Task) → InOrder from ts end → from ≤ waits end (own k ts)
  waits_from k from [] o = o
  waits_from k from (t ∷ ts) o =
      let rest : past_number t.doing o.0 ≤ waits end (own k ts) = waits_from k (past_number t.doing o.0) ts o.3 in
      by_bool (has t.lanes k)
      (λ h. omega (arith, o.1, task_from t.doing o.0 (own k ts) o.2 rest, ap (waits end) (own_here k t ts h)))
      (λ h. omega (arith, o.1, rest, first_past t.doing o.0, ap (waits end) (own_away k t ts h)))

  pub order_end : (from : ℕ) (ts : List Task) → InOrder from ts end → from ≤ end
  order_end from [] o = o
  order_end from (t ∷ ts) o = omega (arith, o.1, first_past t.doing o.0, order_end (past_number t.doing o.0) ts o.3)

-- ---- the number of a step

entry_step : (s : Stmt) (next : ℕ) → IsStepStmt s → entry_of s next ≡ number_of s
entry_step Empty next h = absurd h
entry_step (Then first rest) next h = absurd h
entry_step (Loop number test update body) next h = absurd h
entry_step (BodyFirst number test body) next h = absurd h
entry_step (Segment label body rest) next h = absurd h
entry_step s next h = refl

step_first : (s : Stmt) (n : ℕ) → IsStepStmt s → IsNumbered n s → (number_of s ≡ n) × (n < n + steps_of s)
step_first Empty n h o = absurd h
step_first (Then first rest) n h o = absurd h
step_first (Loop number test update body) n h o = absurd h
step_first (BodyFirst number test body) n h o = absurd h
step_first (Segment label body rest) n h o = absurd h
step_first (If number test first other) n h o = (o.0, omega arith)
step_first (Switch number e segments) n h o = (o.0, omega arith)
step_first (ForEach number form body) n h o = (o.0, omega arith)
step_first s n h o = (o, omega arith)

-- a lane that has a step's task first waits for its number
pub waits_step : (end : StepNumber) (doing : Doing) (ds : List Doing) → IsStep doing → waits end (doing ∷ ds) ≡ number_of_task doing
waits_step end (Run s) ds h = entry_step s (waits end ds) h
waits_step end (LoopUpdate s) ds h = absurd h
waits_step end (LoopTest number test update body) ds h = refl
waits_step end (Round number indices body) ds h = refl
waits_step end RoundEnd ds h = absurd h
waits_step end SwitchEnd ds h = absurd h

-- a step's number is its task's first one
pub step_number : (doing : Doing) (n : ℕ) → IsStep doing → IsNumberedTask n doing → number_of_task doing ≡ first_number doing n
step_number (Run s) n h o = (step_first s n h o).0
step_number (LoopUpdate s) n h o = absurd h
step_number (LoopTest number test update body) n h o = refl
step_number (Round number indices body) n h o = refl
step_number RoundEnd n h o = absurd h
step_number SwitchEnd n h o = absurd h

-- and its task's steps go on after it, unless it is a round
step_past : (points : List Point) (back : Option StepNumber) (end : StepNumber) (doing : Doing) (n : ℕ) (ds : List Doing) → IsStep doing → IsNumberedTask n doing → DoingFits points doing (ways_before back end ds)
    → number_of_task doing < past_number doing n
step_past points back end (Run s) n ds h o d = let first = step_first s n h o in omega (arith, first.0, first.1)
step_past points back end (LoopUpdate s) n ds h o d = absurd h
step_past points back end (LoopTest number test update body) n ds h o d = omega arith
step_past points back end (Round number indices body) n ds h o d = absurd d
step_past points back end RoundEnd n ds h o d = absurd h
step_past points back end SwitchEnd n ds h o d = absurd h

-- ---- the level

module _ (points : List Point) (w : ℕ) (back : Option StepNumber) (level : Level) where
  -- the numbers of a level whose first task is a step of some lane
  module _ (t : Task) (ts : List Task) (s : TasksStand points w back level (t ∷ ts)) (e : length t.lanes ≡ w) (b : BeginsWithStep (t ∷ ts)) where
    past : number_of_task t.doing < past_number t.doing s.order.0
    past =
        let fits = fits_first points w back level.end (lowest t.lanes) t ts (s.fits (lowest t.lanes)) (lowest_has t.lanes b.0) in
        step_past points back level.end t.doing s.order.0 (own (lowest t.lanes) ts) b.1 s.order.2 fits.0

    -- the task's lanes wait for its number, the others for a later one
    pub waits_inside : (k : ℕ) → k < w → has t.lanes k ≡ true → at level.numbers k ≡ number_of_task t.doing
    waits_inside k within h = s.numbers k within ∙ ap (waits level.end) (own_here k t ts h) ∙ waits_step level.end t.doing (own k ts) b.1

    pub waits_outside : (k : ℕ) → k < w → has t.lanes k ≡ false → number_of_task t.doing < at level.numbers k
    waits_outside k within h =
        let same : at level.numbers k ≡ waits level.end (own k ts) = s.numbers k within ∙ ap (waits level.end) (own_away k t ts h) in
        omega (arith, same, past, waits_from level.end k (past_number t.doing s.order.0) ts s.order.3)

    number_below : number_of_task t.doing < level.end
    number_below = omega (arith, past, order_end level.end (past_number t.doing s.order.0) ts s.order.3)

    -- the task's number is the next one
    pub next_is : next_in level ≡ number_of_task t.doing
    next_is =
        let some : lowest t.lanes < w = omega (arith, lowest-lt t.lanes b.0, e) in
        let up : next_in level ≤ at level.numbers (lowest t.lanes) = least_below level.end level.numbers (lowest t.lanes) (omega (arith, some, s.sized)) in
        let down : number_of_task t.doing ≤ next_in level
        = least_above level.end level.numbers (number_of_task t.doing) (omega (arith, number_below))
        (λ k within. by_bool (has t.lanes k)
        (λ h. omega (arith, waits_inside k (omega (arith, within, s.sized)) h))
        (λ h. omega (arith, waits_outside k (omega (arith, within, s.sized)) h))) in
        omega (arith, up, down, waits_inside (lowest t.lanes) some (lowest_has t.lanes b.0))

    pub next_below : next_in level < level.end
    next_below = omega (arith, next_is, number_below)

    -- its lanes are those that wait for it
    pub waiting_is : next_waiting level ≡ t.lanes
    waiting_is = same_lanes (next_waiting level) t.lanes (length-waiting_for (next_in level) level.numbers ∙ s.sized ∙ sym e)
        (λ k. ⊎_elim
        (λ within. has-waiting_for (next_in level) level.numbers k (omega (arith, within, s.sized)) ∙ by_bool (has t.lanes k)
        (λ h. eq-eqb (at level.numbers k) (next_in level) (waits_inside k within h ∙ sym next_is) ∙ sym h)
        (λ h. ne_eqb (at level.numbers k) (next_in level) (λ q. omega (arith, q, next_is, waits_outside k within h)) ∙ sym h))
        (λ beyond. has_past (next_waiting level) k (omega (arith, beyond, s.sized, length-waiting_for (next_in level) level.numbers)) ∙ sym (has_past t.lanes k (omega (arith, beyond, e))))
        (cases_lt k w))

  -- a level without tasks is at its end
  pub next_is_end : TasksStand points w back level [] → next_in level ≡ level.end
  next_is_end s =
      let all : (k : ℕ) → k < length level.numbers → level.end ≤ at level.numbers k = λ k within. omega (arith, s.numbers k (omega (arith, within, s.sized))) in
      omega (arith, least_at_most level.end level.numbers, least_above level.end level.numbers level.end (omega arith) all)

  -- only a level without tasks is
  pub idle_settled : (ts : List Task) → TasksStand points w back level ts → TasksSized w ts → BeginsWithStep ts → next_in level ≡ level.end → ts ≡ []
  idle_settled [] s sized b e = refl
  idle_settled (t ∷ ts) s sized b e = absurd (omega (arith, e, next_below t ts s sized.0 b))

  -- so nothing is left of the tasks of a level at its end
  pub idle_level : (ts : List Task) → TasksStand points w back level ts → TasksSized w (settled ts) → next_in level ≡ level.end → settled ts ≡ []
  idle_level ts s sized e = idle_settled (settled ts) (settled_stands points w back level ts s) sized (settled_begins points back level.end ts s.fits) e

  pub level_idle : (ts : List Task) → TasksStand points w back level ts → settled ts ≡ [] → next_in level ≡ level.end
  level_idle ts s e = next_is_end (subst (TasksStand points w back level) e (settled_stands points w back level ts s))
