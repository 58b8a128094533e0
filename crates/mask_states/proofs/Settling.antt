-- Settling a list of tasks keeps what each lane waits for, and what holds of the tasks; afterwards the first task is a step.
use Rattle.std.proofs.Common.{◌≡◌, refl, sym, ap, ◌∙◌, subst, ℕ, true, false, List, [], ◌∷◌, Option}
use Rattle.std.specs.Prelude.{if◌then◌else◌}
use Rattle.gang_types.specs.Lanes.{Lanes, has, no_lane, lowest}
use Rattle.gang_types.specs.LaneLaws.{lowest_has}
use Rattle.gang_model.specs.Types.Tree.{StepNumber, Stmt}
use Rattle.gang_model.specs.Running.State.{Doing, Run, LoopTest, LoopUpdate, Round, RoundEnd, SwitchEnd, Task}
use Rattle.gang_model.specs.Running.Step.{task, opened_before, opened, opened_task, settled}
use Rattle.mask_states.specs.Points.{Point}
use Rattle.mask_states.specs.Masked.{Level}
use Rattle.mask_states.specs.Stands.{own, waits, ways_before, Fits, AreNested, BeginsWithStep, TasksStand}
use Rattle.mask_states.proofs.OwnTasks.{by_bool, own_here, own_away, own_none}
use Rattle.mask_states.proofs.Replaced.{fits_first, fits_rest}
use Rattle.gang_model.proofs.TaskOrder.{settled_in}
use Rattle.mask_states.proofs.Opening.{opened_waits_in, opened_waits_out, opened_fits, AllInside, opened_nested, opened_begins}

-- ---- the first task

-- a task of no lane is dropped, another one opened
pub settled_none : (t : Task) (ts : List Task) → no_lane t.lanes ≡ true → settled (t ∷ ts) ≡ settled ts
settled_none t ts h = ap (λ b. if b then settled ts else opened_before (opened_task t.doing t.lanes) ts (settled ts)) h

pub settled_some : (t : Task) (ts : List Task) → no_lane t.lanes ≡ false → settled (t ∷ ts) ≡ opened_before (opened_task t.doing t.lanes) ts (settled ts)
settled_some t ts h = ap (λ b. if b then settled ts else opened_before (opened_task t.doing t.lanes) ts (settled ts)) h

-- what holds of a list without its first task, and with this opened, holds of the settled list
pub by_first : (P : List Task → Type 0) (t : Task) (ts : List Task) → P (settled ts) → (no_lane t.lanes ≡ false → P (opened_before (opened_task t.doing t.lanes) ts (settled ts)))
    → P (settled (t ∷ ts))
by_first P t ts without' with' = by_bool (no_lane t.lanes)
    (λ h. subst P (sym (settled_none t ts h)) without')
    (λ h. subst P (sym (settled_some t ts h)) (with' h))

-- ---- numbers

module _ (end : StepNumber) (k : ℕ) where
  statement_waits : (s : Stmt) (lanes : Lanes) (ts done : List Task) → waits end (own k done) ≡ waits end (own k ts)
      → waits end (own k (opened_before (opened s lanes) ts done)) ≡ waits end (own k (task (Run s) lanes ∷ ts))
  statement_waits s lanes ts done e = by_bool (has lanes k)
      (λ h. opened_waits_in end k lanes h s ts done e ∙ sym (ap (waits end) (own_here k (task (Run s) lanes) ts h)))
      (λ h. opened_waits_out end k lanes h s ts done e ∙ sym (ap (waits end) (own_away k (task (Run s) lanes) ts h)))

  update_waits : (s : Stmt) (lanes : Lanes) (ts : List Task) → waits end (own k (task (Run s) lanes ∷ ts)) ≡ waits end (own k (task (LoopUpdate s) lanes ∷ ts))
  update_waits s lanes ts = by_bool (has lanes k)
      (λ h. ap (waits end) (own_here k (task (Run s) lanes) ts h) ∙ sym (ap (waits end) (own_here k (task (LoopUpdate s) lanes) ts h)))
      (λ h. ap (waits end) (own_away k (task (Run s) lanes) ts h) ∙ sym (ap (waits end) (own_away k (task (LoopUpdate s) lanes) ts h)))

  end_waits : (doing : Doing) (lanes : Lanes) (ts : List Task) → ((ds : List Doing) → waits end (doing ∷ ds) ≡ waits end ds) → waits end (own k ts) ≡ waits end (own k (task doing lanes ∷ ts))
  end_waits doing lanes ts same = by_bool (has lanes k)
      (λ h. sym (ap (waits end) (own_here k (task doing lanes) ts h) ∙ same (own k ts)))
      (λ h. sym (ap (waits end) (own_away k (task doing lanes) ts h)))

  task_waits : (doing : Doing) (lanes : Lanes) (ts done : List Task) → waits end (own k done) ≡ waits end (own k ts)
      → waits end (own k (opened_before (opened_task doing lanes) ts done)) ≡ waits end (own k (task doing lanes ∷ ts))
  task_waits (Run s) lanes ts done e = statement_waits s lanes ts done e
  task_waits (LoopUpdate s) lanes ts done e = statement_waits s lanes ts done e ∙ update_waits s lanes ts
  task_waits (LoopTest number test update body) lanes ts done e = refl
  task_waits (Round number indices body) lanes ts done e = refl
  task_waits RoundEnd lanes ts done e = e ∙ end_waits RoundEnd lanes ts (λ ds. refl)
  task_waits SwitchEnd lanes ts done e = e ∙ end_waits SwitchEnd lanes ts (λ ds. refl)

  -- each lane waits for what it waited for
  pub settled_waits : (ts : List Task) → waits end (own k (settled ts)) ≡ waits end (own k ts)
  settled_waits [] = refl
  settled_waits (t ∷ ts) = by_bool (no_lane t.lanes)
      (λ h. ap (λ us. waits end (own k us)) (settled_none t ts h) ∙ settled_waits ts ∙ sym (ap (waits end) (own_none k t ts h)))
      (λ h. ap (λ us. waits end (own k us)) (settled_some t ts h) ∙ task_waits t.doing t.lanes ts (settled ts) (settled_waits ts))

-- ---- points

module _ (points : List Point) (back : Option StepNumber) (end : StepNumber) where
  task_fits : (k : ℕ) (doing : Doing) (lanes : Lanes) (ts done : List Task) → Fits points back end (own k (task doing lanes ∷ ts)) → Fits points back end (own k done)
      → Fits points back end (own k (opened_before (opened_task doing lanes) ts done))
  task_fits k (Run s) lanes ts done f d =
      opened_fits points back end k lanes s ts done (λ h. (fits_first points 0 back end k (task (Run s) lanes) ts f h).0) (fits_rest points 0 back end k (task (Run s) lanes) ts f) d
  task_fits k (LoopUpdate s) lanes ts done f d =
      opened_fits points back end k lanes s ts done (λ h. (fits_first points 0 back end k (task (LoopUpdate s) lanes) ts f h).0) (fits_rest points 0 back end k (task (LoopUpdate s) lanes) ts f) d
  task_fits k (LoopTest number test update body) lanes ts done f d = f
  task_fits k (Round number indices body) lanes ts done f d = f
  task_fits k RoundEnd lanes ts done f d = d
  task_fits k SwitchEnd lanes ts done f d = d

  -- the points still do all that a lane has to do
  pub settled_fits : (k : ℕ) (ts : List Task) → Fits points back end (own k ts) → Fits points back end (own k (settled ts))
  settled_fits k [] f = f
  settled_fits k (t ∷ ts) f =
      let rest : Fits points back end (own k (settled ts)) = settled_fits k ts (fits_rest points 0 back end k t ts f) in
      by_first (λ us. Fits points back end (own k us)) t ts rest (λ h. task_fits k t.doing t.lanes ts (settled ts) f rest)

  task_begins : (doing : Doing) (lanes : Lanes) (ts done : List Task) → no_lane lanes ≡ false → Fits points back end (own (lowest lanes) (task doing lanes ∷ ts)) → BeginsWithStep done
      → BeginsWithStep (opened_before (opened_task doing lanes) ts done)
  task_begins (Run s) lanes ts done some f d =
      opened_begins points lanes some s (ways_before back end (own (lowest lanes) ts)) ts done (fits_first points 0 back end (lowest lanes) (task (Run s) lanes) ts f (lowest_has lanes some)).0 d
  task_begins (LoopUpdate s) lanes ts done some f d =
      opened_begins points lanes some s (ways_before back end (own (lowest lanes) ts)) ts done (fits_first points 0 back end (lowest lanes) (task (LoopUpdate s) lanes) ts f (lowest_has lanes some)).0 d
  task_begins (LoopTest number test update body) lanes ts done some f d = (some, tt)
  task_begins (Round number indices body) lanes ts done some f d = (some, tt)
  task_begins RoundEnd lanes ts done some f d = d
  task_begins SwitchEnd lanes ts done some f d = d

  -- the first task is a step of some lane
  pub settled_begins : (ts : List Task) → ((k : ℕ) → Fits points back end (own k ts)) → BeginsWithStep (settled ts)
  settled_begins [] f = tt
  settled_begins (t ∷ ts) f =
      let rest : BeginsWithStep (settled ts) = settled_begins ts (λ k. fits_rest points 0 back end k t ts (f k)) in
      by_first BeginsWithStep t ts rest (λ some. task_begins t.doing t.lanes ts (settled ts) some (f (lowest t.lanes)) rest)

-- ---- nesting

task_nested : (doing : Doing) (lanes : Lanes) (ts done : List Task) → AllInside lanes ts → AreNested ts → AreNested done → AreNested (opened_before (opened_task doing lanes) ts done)
task_nested (Run s) lanes ts done p r d = opened_nested lanes s ts done p r d
task_nested (LoopUpdate s) lanes ts done p r d = opened_nested lanes s ts done p r d
task_nested (LoopTest number test update body) lanes ts done p r d = (p, r)
task_nested (Round number indices body) lanes ts done p r d = (p, r)
task_nested RoundEnd lanes ts done p r d = d
task_nested SwitchEnd lanes ts done p r d = d

-- a lane is inside of what it was inside of
pub settled_nested : (ts : List Task) → AreNested ts → AreNested (settled ts)
settled_nested [] n = n
settled_nested (t ∷ ts) n =
    let rest : AreNested (settled ts) = settled_nested ts n.1 in
    by_first AreNested t ts rest (λ h. task_nested t.doing t.lanes ts (settled ts) n.0 n.1 rest)

-- ---- levels

-- a level's numbers stand for the settled tasks
pub settled_stands : (points : List Point) (w : ℕ) (back : Option StepNumber) (level : Level) (ts : List Task) → TasksStand points w back level ts → TasksStand points w back level (settled ts)
settled_stands points w back level ts s = record {
  sized = s.sized;
  numbers = λ k within. s.numbers k within ∙ sym (settled_waits level.end k ts);
  fits = λ k. settled_fits points back level.end k ts (s.fits k);
  order = settled_in ts 0 level.end s.order;
  nested = settled_nested ts s.nested;
}
