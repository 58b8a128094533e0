-- Settling of lists one after the other, of lists that are settled, and of the rounds of a foreach form.
use Rattle.std.proofs.Common.{◌≡◌, refl, sym, ap, ◌∙◌, subst, ℕ, true, false, cond, List, [], ◌∷◌, ◌++◌, length, Option}
use Rattle.std.specs.Prelude.{not}
use Rattle.gang_types.specs.Lanes.{Lanes, no_lane}
use Rattle.gang_model.specs.Types.Tree.{StepNumber, Stmt, Empty, Then, Loop, BodyFirst}
use Rattle.gang_model.specs.Running.State.{Doing, Run, LoopTest, LoopUpdate, Round, RoundEnd, SwitchEnd, Task}
use Rattle.gang_model.specs.Running.Rounds.{Turn}
use Rattle.gang_model.specs.Running.Step.{task, opened_before, opened, opened_task, settled, round_tasks}
use Rattle.mask_states.specs.Points.{Point}
use Rattle.mask_states.specs.Masked.{turns_taken}
use Rattle.mask_states.specs.Stands.{own, Fits, IsStepStmt, IsStep, BeginsWithStep, AreSized}
use Rattle.mask_states.proofs.OwnTasks.{by_bool}
use Rattle.mask_states.proofs.Opening.{opened_before_all}
use Rattle.mask_states.proofs.Settling.{settled_none, settled_some, settled_begins}

-- ---- lists one after the other

-- the second list comes after the settled first one, or is settled itself where nothing is left of the first
pub settled_append : (xs ys : List Task) → settled (xs ++ ys) ≡ opened_before (settled xs) ys (settled ys)
settled_append [] ys = refl
settled_append (t ∷ xs) ys = by_bool (no_lane t.lanes)
    (λ h. settled_none t (xs ++ ys) h ∙ settled_append xs ys ∙ sym (ap (λ us. opened_before us ys (settled ys)) (settled_none t xs h)))
    (λ h. settled_some t (xs ++ ys) h
    ∙ ap (λ us. opened_before (opened_task t.doing t.lanes) (xs ++ ys) us) (settled_append xs ys)
    ∙ sym (opened_before_all (opened_task t.doing t.lanes) xs (settled xs) ys (settled ys))
    ∙ sym (ap (λ us. opened_before us ys (settled ys)) (settled_some t xs h)))

pub settled_append_none : (xs ys : List Task) → settled xs ≡ [] → settled (xs ++ ys) ≡ settled ys
settled_append_none xs ys h = settled_append xs ys ∙ ap (λ us. opened_before us ys (settled ys)) h

pub settled_append_some : (xs ys : List Task) (t : Task) (ts : List Task) → settled xs ≡ t ∷ ts → settled (xs ++ ys) ≡ t ∷ (ts ++ ys)
settled_append_some xs ys t ts h = settled_append xs ys ∙ ap (λ us. opened_before us ys (settled ys)) h

-- ---- settled lists

opened_step : (s : Stmt) (lanes : Lanes) → IsStepStmt s → opened s lanes ≡ task (Run s) lanes ∷ []
opened_step Empty lanes h = absurd h
opened_step (Then first rest) lanes h = absurd h
opened_step (Loop number test update body) lanes h = absurd h
opened_step (BodyFirst number test body) lanes h = absurd h
opened_step s lanes h = refl

opened_task_step : (doing : Doing) (lanes : Lanes) → IsStep doing → opened_task doing lanes ≡ task doing lanes ∷ []
opened_task_step (Run s) lanes h = opened_step s lanes h
opened_task_step (LoopUpdate s) lanes h = absurd h
opened_task_step (LoopTest number test update body) lanes h = refl
opened_task_step (Round number indices body) lanes h = refl
opened_task_step RoundEnd lanes h = absurd h
opened_task_step SwitchEnd lanes h = absurd h

-- tasks that begin with a step of some lane are settled
pub settled_idle : (ts : List Task) → BeginsWithStep ts → settled ts ≡ ts
settled_idle [] b = refl
settled_idle (t ∷ ts) b = settled_some t ts b.0 ∙ ap (λ us. opened_before us ts (settled ts)) (opened_task_step t.doing t.lanes b.1)

-- an update that is a step becomes a statement
pub settled_update : (s : Stmt) (lanes : Lanes) (ts : List Task) → no_lane lanes ≡ false → IsStepStmt s → settled (task (LoopUpdate s) lanes ∷ ts) ≡ task (Run s) lanes ∷ ts
settled_update s lanes ts some h = settled_some (task (LoopUpdate s) lanes) ts some ∙ ap (λ us. opened_before us ts (settled ts)) (opened_step s lanes h)

-- what is settled stays so
pub settled_twice : (points : List Point) (back : Option StepNumber) (end : StepNumber) (ts : List Task) → ((k : ℕ) → Fits points back end (own k ts)) → settled (settled ts) ≡ settled ts
settled_twice points back end ts f = settled_idle (settled ts) (settled_begins points back end ts f)

-- ---- rounds

-- a round of no lane is not taken, another one is
turns_none : (turn : Turn) (turns : List Turn) → no_lane turn.lanes ≡ true → turns_taken (turn ∷ turns) ≡ turns_taken turns
turns_none turn turns h = ap (λ b. cond (not b) (turn ∷ turns_taken turns) (turns_taken turns)) h

turns_some : (turn : Turn) (turns : List Turn) → no_lane turn.lanes ≡ false → turns_taken (turn ∷ turns) ≡ turn ∷ turns_taken turns
turns_some turn turns h = ap (λ b. cond (not b) (turn ∷ turns_taken turns) (turns_taken turns)) h

module _ (number : StepNumber) (body : Stmt) (rest : List Task) where
  -- where no round is taken, the tasks after the rounds are settled
  pub settled_no_round : (turns : List Turn) → turns_taken turns ≡ [] → settled (round_tasks number body turns ++ rest) ≡ settled rest
  settled_no_round [] e = refl
  settled_no_round (turn ∷ turns) e = by_bool (no_lane turn.lanes)
      (λ h. settled_none (task (Round number turn.indices body) turn.lanes) (round_tasks number body turns ++ rest) h ∙ settled_no_round turns (sym (turns_none turn turns h) ∙ e))
      (λ h. absurd (some_none (sym (turns_some turn turns h) ∙ e)))
    where
      some_none : {x : Turn} {xs : List Turn} → x ∷ xs ≡ [] → ⊥
      some_none q = cc

-- the rounds begin with this one, which some lane takes part in, and go on with the later ones
pub record FirstRound (number : StepNumber) (body : Stmt) (rest : List Task) (turns : List Turn) (turn : Turn) (more : List Turn) : Type 0 where
  pub later : List Turn
  pub first : settled (round_tasks number body turns ++ rest) ≡ task (Round number turn.indices body) turn.lanes ∷ (round_tasks number body later ++ rest)
  pub taken : turns_taken later ≡ more
  pub sized : (w : ℕ) → AreSized w turns → (length turn.lanes ≡ w) × AreSized w later
  pub some : no_lane turn.lanes ≡ false

same_head : {x y : Turn} {xs ys : List Turn} → x ∷ xs ≡ y ∷ ys → x ≡ y
same_head q = cc

same_tail : {x y : Turn} {xs ys : List Turn} → x ∷ xs ≡ y ∷ ys → xs ≡ ys
same_tail q = cc

module _ (number : StepNumber) (body : Stmt) (rest : List Task) (more : List Turn) where
  first_round : (turn : Turn) (turns : List Turn) → no_lane turn.lanes ≡ false → turns_taken turns ≡ more → FirstRound number body rest (turn ∷ turns) turn more
  first_round turn turns h e = record {
    later = turns;
    first = settled_some (task (Round number turn.indices body) turn.lanes) (round_tasks number body turns ++ rest) h;
    taken = e;
    sized = λ w a. a;
    some = h;
  }

  later_round : (turn empty : Turn) (turns : List Turn) → no_lane empty.lanes ≡ true → FirstRound number body rest turns turn more → FirstRound number body rest (empty ∷ turns) turn more
  later_round turn empty turns h f = record {
    later = f.later;
    first = settled_none (task (Round number empty.indices body) empty.lanes) (round_tasks number body turns ++ rest) h ∙ f.first;
    taken = f.taken;
    sized = λ w a. f.sized w a.1;
    some = f.some;
  }

  -- where a round is taken, the first such one comes first
  pub settled_rounds : (turns : List Turn) (turn : Turn) → turns_taken turns ≡ turn ∷ more → FirstRound number body rest turns turn more
  settled_rounds [] turn e = absurd (none_some e)
    where
      none_some : {x : Turn} {xs : List Turn} → [] ≡ x ∷ xs → ⊥
      none_some q = cc
  settled_rounds (first ∷ turns) turn e = by_bool (no_lane first.lanes)
      (λ h. later_round turn first turns h (settled_rounds turns turn (sym (turns_none first turns h) ∙ e)))
      (λ h.
      let both : first ∷ turns_taken turns ≡ turn ∷ more = sym (turns_some first turns h) ∙ e in
      subst (λ x. FirstRound number body rest (first ∷ turns) x more) (same_head both) (first_round first turns h (same_tail both)))
