-- What a lane has to do of lists of tasks, and settling of it.
use Rattle.std.proofs.Common.{◌≡◌, refl, sym, ap, ◌∙◌, subst, ℕ, Bool, true, false, List, [], ◌∷◌, ◌++◌}
use Rattle.std.specs.Prelude.{if◌then◌else◌}
use Rattle.std.proofs.lemmas.List.{append_assoc}
use Rattle.gang_types.specs.Lanes.{Lanes, has, no_lane}
use Rattle.gang_types.specs.LaneLaws.{no_lane_has}
use Rattle.gang_model.specs.Types.Tree.{StepNumber, Expr, Stmt, Empty, Then, Loop, BodyFirst}
use Rattle.gang_model.specs.Running.State.{Doing, Run, LoopTest, LoopUpdate, Round, RoundEnd, SwitchEnd, Task}
use Rattle.gang_model.specs.Running.Step.{task, opened_before, opened, opened_task, settled}
use Rattle.lane_alone.specs.OwnTasks.{own, own_before, own_opened, own_task, own_settled, IsStepStmt, IsStep, IsSettled, OwnSettled, AllLanes, Inside, Nested}

-- a fact by the two values of a test
pub by_bool : {P : Type 0} → (b : Bool) → (b ≡ true → P) → (b ≡ false → P) → P
by_bool true yes' no' = yes' refl
by_bool false yes' no' = no' refl

pub not_both : {P : Type 0} {b : Bool} → b ≡ true → b ≡ false → P
not_both h g = absurd (cc)

pub own_here : (k : ℕ) (t : Task) (ts : List Task) → has t.lanes k ≡ true → own k (t ∷ ts) ≡ t.doing ∷ own k ts
own_here k t ts h = ap (λ b. if b then t.doing ∷ own k ts else own k ts) h

pub own_away : (k : ℕ) (t : Task) (ts : List Task) → has t.lanes k ≡ false → own k (t ∷ ts) ≡ own k ts
own_away k t ts h = ap (λ b. if b then t.doing ∷ own k ts else own k ts) h

pub own_none : (k : ℕ) (t : Task) (ts : List Task) → no_lane t.lanes ≡ true → own k (t ∷ ts) ≡ own k ts
own_none k t ts h = own_away k t ts (no_lane_has t.lanes h k)

pub own_append : (k : ℕ) (xs ys : List Task) → own k (xs ++ ys) ≡ own k xs ++ own k ys
own_append k [] ys = refl
own_append k (t ∷ xs) ys = by_bool (has t.lanes k)
    (λ h. own_here k t (xs ++ ys) h ∙ ap (λ ds. t.doing ∷ ds) (own_append k xs ys) ∙ sym (ap (λ ds. ds ++ own k ys) (own_here k t xs h)))
    (λ h. own_away k t (xs ++ ys) h ∙ own_append k xs ys ∙ sym (ap (λ ds. ds ++ own k ys) (own_away k t xs h)))

-- ---- opening

opened_before_all : (xs next rest raw done : List Task) → opened_before (opened_before xs next rest) raw done ≡ opened_before xs (next ++ raw) (opened_before rest raw done)
opened_before_all [] next rest raw done = refl
opened_before_all (t ∷ xs) next rest raw done = append_assoc (t ∷ xs) next raw

own_before_all : (xs next rest raw done : List Doing) → own_before (own_before xs next rest) raw done ≡ own_before xs (next ++ raw) (own_before rest raw done)
own_before_all [] next rest raw done = refl
own_before_all (t ∷ xs) next rest raw done = append_assoc (t ∷ xs) next raw

pub opened_then : (first rest : Stmt) (lanes : Lanes) (raw done : List Task)
    → opened_before (opened (Then first rest) lanes) raw done ≡ opened_before (opened first lanes) (task (Run rest) lanes ∷ raw) (opened_before (opened rest lanes) raw done)
opened_then first rest lanes raw done = opened_before_all (opened first lanes) (task (Run rest) lanes ∷ []) (opened rest lanes) raw done

pub opened_body : (number : StepNumber) (test : Expr) (body : Stmt) (lanes : Lanes) (raw done : List Task)
    → opened_before (opened (BodyFirst number test body) lanes) raw done
    ≡ opened_before (opened body lanes) (task (LoopUpdate Empty) lanes ∷ task (LoopTest number test Empty body) lanes ∷ raw) (task (LoopTest number test Empty body) lanes ∷ raw)
opened_body number test body lanes raw done =
    opened_before_all (opened body lanes) (task (LoopUpdate Empty) lanes ∷ task (LoopTest number test Empty body) lanes ∷ []) (task (LoopTest number test Empty body) lanes ∷ []) raw done

settled_none : (t : Task) (ts : List Task) → no_lane t.lanes ≡ true → settled (t ∷ ts) ≡ settled ts
settled_none t ts h = ap (λ b. if b then settled ts else opened_before (opened_task t.doing t.lanes) ts (settled ts)) h

settled_some : (t : Task) (ts : List Task) → no_lane t.lanes ≡ false → settled (t ∷ ts) ≡ opened_before (opened_task t.doing t.lanes) ts (settled ts)
settled_some t ts h = ap (λ b. if b then settled ts else opened_before (opened_task t.doing t.lanes) ts (settled ts)) h

-- what holds of a list without its first task, and with this opened, holds of the settled list
pub by_first : (P : List Task → Type 0) (t : Task) (ts : List Task) → P (settled ts) → (no_lane t.lanes ≡ false → P (opened_before (opened_task t.doing t.lanes) ts (settled ts)))
    → P (settled (t ∷ ts))
by_first P t ts without' with' = by_bool (no_lane t.lanes)
    (λ h. subst P (sym (settled_none t ts h)) without')
    (λ h. subst P (sym (settled_some t ts h)) (with' h))

-- ---- the first task of a settled list is a step

opened_begins : (lanes : Lanes) → no_lane lanes ≡ false → (s : Stmt) (next rest : List Task) → IsSettled rest → IsSettled (opened_before (opened s lanes) next rest)
opened_begins lanes some Empty next rest b = b
opened_begins lanes some (Then first second) next rest b =
    subst IsSettled (sym (opened_then first second lanes next rest)) (opened_begins lanes some first _ _ (opened_begins lanes some second next rest b))
opened_begins lanes some (Loop number test update body) next rest b = (some, tt)
opened_begins lanes some (BodyFirst number test body) next rest b =
    subst IsSettled (sym (opened_body number test body lanes next rest)) (opened_begins lanes some body _ _ (some, tt))
opened_begins lanes some s next rest b = (some, tt)

task_begins : (doing : Doing) (lanes : Lanes) → no_lane lanes ≡ false → (next rest : List Task) → IsSettled rest → IsSettled (opened_before (opened_task doing lanes) next rest)
task_begins (Run s) lanes some next rest b = opened_begins lanes some s next rest b
task_begins (LoopUpdate s) lanes some next rest b = opened_begins lanes some s next rest b
task_begins RoundEnd lanes some next rest b = b
task_begins SwitchEnd lanes some next rest b = b
task_begins (LoopTest number test update body) lanes some next rest b = (some, tt)
task_begins (Round number indices body) lanes some next rest b = (some, tt)

pub settled_begins : (ts : List Task) → IsSettled (settled ts)
settled_begins [] = tt
settled_begins (t ∷ ts) = by_first IsSettled t ts (settled_begins ts) (λ some. task_begins t.doing t.lanes some ts (settled ts) (settled_begins ts))

own_begins : (s : Stmt) (next rest : List Doing) → OwnSettled rest → OwnSettled (own_before (own_opened s) next rest)
own_begins Empty next rest b = b
own_begins (Then first second) next rest b =
    subst OwnSettled (sym (own_before_all (own_opened first) (Run second ∷ []) (own_opened second) next rest)) (own_begins first _ _ (own_begins second next rest b))
own_begins (Loop number test update body) next rest b = tt
own_begins (BodyFirst number test body) next rest b =
    subst OwnSettled (sym (own_before_all (own_opened body) (LoopUpdate Empty ∷ LoopTest number test Empty body ∷ []) (LoopTest number test Empty body ∷ []) next rest)) (own_begins body _ _ tt)
own_begins s next rest b = tt

own_task_begins : (d : Doing) (next rest : List Doing) → OwnSettled rest → OwnSettled (own_before (own_task d) next rest)
own_task_begins (Run s) next rest b = own_begins s next rest b
own_task_begins (LoopUpdate s) next rest b = own_begins s next rest b
own_task_begins RoundEnd next rest b = b
own_task_begins SwitchEnd next rest b = b
own_task_begins (LoopTest number test update body) next rest b = tt
own_task_begins (Round number indices body) next rest b = tt

pub own_settled_begins : (ds : List Doing) → OwnSettled (own_settled ds)
own_settled_begins [] = tt
own_settled_begins (d ∷ ds) = own_task_begins d ds (own_settled ds) (own_settled_begins ds)

opened_step : (s : Stmt) → IsStepStmt s → own_opened s ≡ Run s ∷ []
opened_step Empty h = absurd h
opened_step (Then first rest) h = absurd h
opened_step (Loop number test update body) h = absurd h
opened_step (BodyFirst number test body) h = absurd h
opened_step s h = refl

pub own_step : (d : Doing) → IsStep d → own_task d ≡ d ∷ []
own_step (Run s) h = opened_step s h
own_step (LoopUpdate s) h = absurd h
own_step (LoopTest number test update body) h = refl
own_step (Round number indices body) h = refl
own_step RoundEnd h = absurd h
own_step SwitchEnd h = absurd h

-- what begins with a step is settled
pub own_idle : (ds : List Doing) → OwnSettled ds → own_settled ds ≡ ds
own_idle [] h = refl
own_idle (d ∷ ds) h = ap (λ xs. own_before xs ds (own_settled ds)) (own_step d h)

-- ---- settling keeps what a lane has to do

module _ (k : ℕ) (lanes : Lanes) where
  opened_in : has lanes k ≡ true → (s : Stmt) (next rest : List Task) → own k (opened_before (opened s lanes) next rest) ≡ own_before (own_opened s) (own k next) (own k rest)
  opened_in h Empty next rest = refl
  opened_in h (Then first second) next rest =
      ap (own k) (opened_then first second lanes next rest)
      ∙ opened_in h first (task (Run second) lanes ∷ next) (opened_before (opened second lanes) next rest)
      ∙ ap (λ ds. own_before (own_opened first) ds (own k (opened_before (opened second lanes) next rest))) (own_here k (task (Run second) lanes) next h)
      ∙ ap (own_before (own_opened first) (Run second ∷ own k next)) (opened_in h second next rest)
      ∙ sym (own_before_all (own_opened first) (Run second ∷ []) (own_opened second) (own k next) (own k rest))
  opened_in h (Loop number test update body) next rest = own_here k (task (LoopTest number test update body) lanes) next h
  opened_in h (BodyFirst number test body) next rest =
      let last : Task = task (LoopTest number test Empty body) lanes in
      let here : own k (last ∷ next) ≡ LoopTest number test Empty body ∷ own k next = own_here k last next h in
      ap (own k) (opened_body number test body lanes next rest)
      ∙ opened_in h body (task (LoopUpdate Empty) lanes ∷ last ∷ next) (last ∷ next)
      ∙ ap (λ ds. own_before (own_opened body) ds (own k (last ∷ next))) (own_here k (task (LoopUpdate Empty) lanes) (last ∷ next) h ∙ ap (λ ds. LoopUpdate Empty ∷ ds) here)
      ∙ ap (own_before (own_opened body) (LoopUpdate Empty ∷ LoopTest number test Empty body ∷ own k next)) here
      ∙ sym (own_before_all (own_opened body) (LoopUpdate Empty ∷ LoopTest number test Empty body ∷ []) (LoopTest number test Empty body ∷ []) (own k next) (own k rest))
  opened_in h s next rest = own_here k (task (Run s) lanes) next h

  task_in : has lanes k ≡ true → (d : Doing) (next rest : List Task) → own k (opened_before (opened_task d lanes) next rest) ≡ own_before (own_task d) (own k next) (own k rest)
  task_in h (Run s) next rest = opened_in h s next rest
  task_in h (LoopUpdate s) next rest = opened_in h s next rest
  task_in h RoundEnd next rest = refl
  task_in h SwitchEnd next rest = refl
  task_in h (LoopTest number test update body) next rest = own_here k (task (LoopTest number test update body) lanes) next h
  task_in h (Round number indices body) next rest = own_here k (task (Round number indices body) lanes) next h

  opened_out : has lanes k ≡ false → (s : Stmt) (next rest : List Task) → own_settled (own k rest) ≡ own_settled (own k next)
      → own_settled (own k (opened_before (opened s lanes) next rest)) ≡ own_settled (own k next)
  opened_out h Empty next rest e = e
  opened_out h (Then first second) next rest e =
      let here : own_settled (own k (task (Run second) lanes ∷ next)) ≡ own_settled (own k next) = ap own_settled (own_away k (task (Run second) lanes) next h) in
      ap (λ ts. own_settled (own k ts)) (opened_then first second lanes next rest)
      ∙ opened_out h first (task (Run second) lanes ∷ next) (opened_before (opened second lanes) next rest) (opened_out h second next rest e ∙ sym here)
      ∙ here
  opened_out h (Loop number test update body) next rest e = ap own_settled (own_away k (task (LoopTest number test update body) lanes) next h)
  opened_out h (BodyFirst number test body) next rest e =
      let last : Task = task (LoopTest number test Empty body) lanes in
      let there : own_settled (own k (last ∷ next)) ≡ own_settled (own k next) = ap own_settled (own_away k last next h) in
      let here : own_settled (own k (task (LoopUpdate Empty) lanes ∷ last ∷ next)) ≡ own_settled (own k (last ∷ next)) = ap own_settled (own_away k (task (LoopUpdate Empty) lanes) (last ∷ next) h) in
      ap (λ ts. own_settled (own k ts)) (opened_body number test body lanes next rest)
      ∙ opened_out h body (task (LoopUpdate Empty) lanes ∷ last ∷ next) (last ∷ next) (sym here) ∙ here ∙ there
  opened_out h s next rest e = ap own_settled (own_away k (task (Run s) lanes) next h)

  task_out : has lanes k ≡ false → (d : Doing) (next rest : List Task) → own_settled (own k rest) ≡ own_settled (own k next)
      → own_settled (own k (opened_before (opened_task d lanes) next rest)) ≡ own_settled (own k next)
  task_out h (Run s) next rest e = opened_out h s next rest e
  task_out h (LoopUpdate s) next rest e = opened_out h s next rest e
  task_out h RoundEnd next rest e = e
  task_out h SwitchEnd next rest e = e
  task_out h (LoopTest number test update body) next rest e = ap own_settled (own_away k (task (LoopTest number test update body) lanes) next h)
  task_out h (Round number indices body) next rest e = ap own_settled (own_away k (task (Round number indices body) lanes) next h)

before_settled : (xs next rest : List Doing) → OwnSettled (own_before xs next []) → own_settled (own_before xs next rest) ≡ own_before xs next (own_settled rest)
before_settled [] next rest h = refl
before_settled (d ∷ ds) next rest h = own_idle (d ∷ (ds ++ next)) h

-- settling first changes nothing of what a lane has to do, once that is settled
pub settled_own : (k : ℕ) (ts : List Task) → own_settled (own k (settled ts)) ≡ own_settled (own k ts)
settled_own k [] = refl
settled_own k (t ∷ ts) = by_bool (no_lane t.lanes)
    (λ h. ap (λ us. own_settled (own k us)) (settled_none t ts h) ∙ settled_own k ts ∙ sym (ap own_settled (own_none k t ts h)))
    (λ h. ap (λ us. own_settled (own k us)) (settled_some t ts h) ∙ by_bool (has t.lanes k)
    (λ m. ap own_settled (task_in k t.lanes m t.doing ts (settled ts))
    ∙ before_settled (own_task t.doing) (own k ts) (own k (settled ts)) (own_task_begins t.doing (own k ts) [] tt)
    ∙ ap (own_before (own_task t.doing) (own k ts)) (settled_own k ts)
    ∙ sym (ap own_settled (own_here k t ts m)))
    (λ m. task_out k t.lanes m t.doing ts (settled ts) (settled_own k ts) ∙ sym (ap own_settled (own_away k t ts m))))

-- ---- properties of sets of lanes

module _ (Q : Lanes → Type 0) where
  pub all_append : (xs ys : List Task) → AllLanes Q xs → AllLanes Q ys → AllLanes Q (xs ++ ys)
  all_append [] ys a b = b
  all_append (t ∷ xs) ys a b = (a.0, all_append xs ys a.1 b)

  all_before : (xs next rest : List Task) → AllLanes Q xs → AllLanes Q next → AllLanes Q rest → AllLanes Q (opened_before xs next rest)
  all_before [] next rest a n r = r
  all_before (t ∷ xs) next rest a n r = all_append (t ∷ xs) next a n

  all_opened : (s : Stmt) (lanes : Lanes) → Q lanes → AllLanes Q (opened s lanes)
  all_opened Empty lanes h = tt
  all_opened (Then a b) lanes h = all_before (opened a lanes) _ _ (all_opened a lanes h) (h, tt) (all_opened b lanes h)
  all_opened (BodyFirst number test body) lanes h = all_before (opened body lanes) _ _ (all_opened body lanes h) (h, (h, tt)) (h, tt)
  all_opened s lanes h = (h, tt)

  all_opened_task : (doing : Doing) (lanes : Lanes) → Q lanes → AllLanes Q (opened_task doing lanes)
  all_opened_task (Run s) lanes h = all_opened s lanes h
  all_opened_task (LoopUpdate s) lanes h = all_opened s lanes h
  all_opened_task RoundEnd lanes h = tt
  all_opened_task SwitchEnd lanes h = tt
  all_opened_task (LoopTest number e u b) lanes h = (h, tt)
  all_opened_task (Round number i b) lanes h = (h, tt)

  pub all_settled : (ts : List Task) → AllLanes Q ts → AllLanes Q (settled ts)
  all_settled [] h = tt
  all_settled (t ∷ ts) h = by_first (AllLanes Q) t ts (all_settled ts h.1)
      (λ some. all_before (opened_task t.doing t.lanes) ts (settled ts) (all_opened_task t.doing t.lanes h.0) h.1 (all_settled ts h.1))

-- ---- nesting

module _ (k : ℕ) (lanes : Lanes) where
  nested_opened : (s : Stmt) (next rest : List Task) → (has lanes k ≡ true → Inside k next) → Nested k next → Nested k rest → Nested k (opened_before (opened s lanes) next rest)
  nested_opened Empty next rest i n r = r
  nested_opened (Then first second) next rest i n r =
      subst (Nested k) (sym (opened_then first second lanes next rest))
      (nested_opened first (task (Run second) lanes ∷ next) (opened_before (opened second lanes) next rest) i (i, n) (nested_opened second next rest i n r))
  nested_opened (Loop number test update body) next rest i n r = (i, n)
  nested_opened (BodyFirst number test body) next rest i n r =
      subst (Nested k) (sym (opened_body number test body lanes next rest))
      (nested_opened body (task (LoopUpdate Empty) lanes ∷ task (LoopTest number test Empty body) lanes ∷ next) (task (LoopTest number test Empty body) lanes ∷ next)
      (λ h. (h, h)) ((λ h. (h, (i h).1)), (i, n)) (i, n))
  nested_opened s next rest i n r = (i, n)

  nested_task : (d : Doing) (next rest : List Task) → (has lanes k ≡ true → Inside k next) → Nested k next → Nested k rest → Nested k (opened_before (opened_task d lanes) next rest)
  nested_task (Run s) next rest i n r = nested_opened s next rest i n r
  nested_task (LoopUpdate s) next rest i n r = nested_opened s next rest i n r
  nested_task RoundEnd next rest i n r = r
  nested_task SwitchEnd next rest i n r = r
  nested_task (LoopTest number test update body) next rest i n r = (i, n)
  nested_task (Round number indices body) next rest i n r = (i, n)

pub nested_settled : (k : ℕ) (ts : List Task) → Nested k ts → Nested k (settled ts)
nested_settled k [] h = tt
nested_settled k (t ∷ ts) h = by_first (Nested k) t ts (nested_settled k ts h.1) (λ some. nested_task k t.lanes t.doing ts (settled ts) h.0 h.1 (nested_settled k ts h.1))
