-- The variables that tasks may name, through settling.
use Rattle.std.proofs.Common.{◌≡◌, refl, sym, ap, ◌∙◌, subst, ℕ, Bool, true, false, List, [], ◌∷◌, Option, Some, None, inl, inr}
use Rattle.std.specs.Prelude.{◌||◌, ◌==◌}
use Rattle.gang_types.specs.declared.types.Rate.{Rate}
use Rattle.gang_types.specs.declared.places.VarId.{VarId}
use Rattle.gang_types.specs.declared.places.VarId.TheVariants.{Local}
use Rattle.gang_types.specs.Lanes.{Lanes, has}
use Rattle.gang_model.specs.Types.Tree.{Stmt, Empty, Then, Declare, Loop, BodyFirst, Call, Program, Nothing, Declares, Assigns, Returns}
use Rattle.gang_model.specs.Running.State.{Doing, Run, LoopTest, LoopUpdate, Round, RoundEnd, SwitchEnd, Task}
use Rattle.gang_model.specs.Running.Step.{task, opened_before, opened, opened_task, settled}
use Rattle.lane_alone.specs.Fits.{Locals, with_local, known_with, declares, Within, Family, Fits, FitsDoing}
use Rattle.lane_alone.specs.OwnTasks.{Chain, Behind, Head}
use Rattle.lane_alone.proofs.TaskLists.{by_bool, not_both, by_first, opened_then, opened_body}

pub within_same : (known : Locals) → Within known known
within_same known n h = h

pub within_with : (m : ℕ) (known : Locals) → Within known (with_local m known)
within_with m known n h = either_side (n == m) (known n) h
  where
    either_side : (a b : Bool) → b ≡ true → (a || b) ≡ true
    either_side true b h = refl
    either_side false b h = h

module _ (p : Program) (family : Family) (own_rate : Rate) (k : ℕ) where
  pub chain_wider : (alike : ℕ → Type 0) (bound wider : Locals) → Within bound wider → (ts : List Task) → Chain p family own_rate k alike bound ts → Chain p family own_rate k alike wider ts
  chain_wider alike bound wider w [] c = tt
  chain_wider alike bound wider w (t ∷ ts) c = (c.0, λ n h. w n (c.1 n h), c.2, c.3, c.4)

  -- what is alike stays so, but for a variable that no task may name
  pub chain_but : (alike alike' : ℕ → Type 0) (m : ℕ) → ((n : ℕ) → (n ≡ m → ⊥) → alike n → alike' n) → (bound : Locals) → bound m ≡ false → (ts : List Task)
      → Chain p family own_rate k alike bound ts → Chain p family own_rate k alike' bound ts
  chain_but alike alike' m keeps bound new [] c = tt
  chain_but alike alike' m keeps bound new (t ∷ ts) c = (
    c.0,
    c.1,
    c.2,
    (λ h n known. keeps n (λ same. not_both (c.1 n known) (subst (λ i. bound i ≡ false) (sym same) new)) (c.3 h n known)),
    chain_but alike alike' m keeps c.0 (by_bool (c.0 m) (λ yes'. not_both (c.1 m yes') new) (λ no'. no')) ts c.4,
  )

  pub chain_kept : (alike alike' : ℕ → Type 0) → ((n : ℕ) → alike n → alike' n) → (bound : Locals) (ts : List Task) → Chain p family own_rate k alike bound ts → Chain p family own_rate k alike' bound ts
  chain_kept alike alike' keeps bound [] c = tt
  chain_kept alike alike' keeps bound (t ∷ ts) c = (c.0, c.1, c.2, (λ h n known. keeps n (c.3 h n known)), chain_kept alike alike' keeps c.0 ts c.4)

  module _ (alike : ℕ → Type 0) where
    Alike : Locals → Lanes → Type 0
    Alike known lanes = has lanes k ≡ true → (n : ℕ) → known n ≡ true → alike n

    none_some : {v : VarId} → None ≡ Some v → ⊥
    none_some q = cc

    some_same : {v w : VarId} → Some v ≡ Some w → v ≡ w
    some_same q = cc

    pub behind_none : (known : Locals) (lanes : Lanes) (ts : List Task) → Behind p family own_rate k alike known None lanes ts → Chain p family own_rate k alike known ts
    behind_none known lanes ts (inl c) = c
    behind_none known lanes ts (inr d) = absurd (none_some d.what_is)

    -- a step before tasks
    head_of : (bound known : Locals) → Within known bound → (d : Doing) (lanes : Lanes) → FitsDoing p family own_rate known d → (has lanes k ≡ true → (n : ℕ) → known n ≡ true → alike n)
        → (ts : List Task) → Chain p family own_rate k alike known ts → Head p family own_rate k alike bound (task d lanes ∷ ts)
    head_of bound known w d lanes f a ts c = (known, w, f, a, inl c)

    -- a declaration before what follows it
    head_declares : (bound known : Locals) → Within known bound → (s rest : Stmt) (lanes : Lanes) → Fits p family own_rate known s → (has lanes k ≡ true → (n : ℕ) → known n ≡ true → alike n)
        → (m : ℕ) → declares s ≡ Some (Local m) → Fits p family own_rate (with_local m known) rest → (ts : List Task) → Chain p family own_rate k alike known ts
        → Head p family own_rate k alike bound (task (Run s) lanes ∷ task (Run rest) lanes ∷ ts)
    head_declares bound known w s rest lanes f a m is g ts c =
        (known, w, f, a, inr (record { m = m; what_is = is; next = task (Run rest) lanes; rest = ts; tasks = refl; fits = g; among = λ h. h; chain = c }))

    -- a statement that declares a variable is a step
    declaring : (known : Locals) (s : Stmt) (v : VarId) → declares s ≡ Some v → Fits p family own_rate known s → (m : ℕ) × (v ≡ Local m) × (known m ≡ false) × ((lanes : Lanes) → opened s lanes ≡ task (Run s) lanes ∷ [])
    declaring known (Declare number x e) v is f = (f.0.1, sym (some_same is) ∙ f.0.2, f.0.3, λ lanes. refl)
    declaring known (Call number g args (Declares x)) v is f = (f.5.1.1, sym (some_same is) ∙ f.5.1.2, f.5.1.3, λ lanes. refl)
    declaring known (Call number g args Nothing) v is f = absurd (none_some is)
    declaring known (Call number g args (Assigns x)) v is f = absurd (none_some is)
    declaring known (Call number g args Returns) v is f = absurd (none_some is)
    declaring known s v is f = absurd (none_some is)

    then_head : (bound known : Locals) → Within known bound → (first second : Stmt) (lanes : Lanes) → Fits p family own_rate known first → Fits p family own_rate (known_with (declares first) known) second
        → (has lanes k ≡ true → (n : ℕ) → known n ≡ true → alike n) → (next rest : List Task) → Chain p family own_rate k alike known next
        → ((next' rest' : List Task) → Chain p family own_rate k alike known next' → Head p family own_rate k alike bound rest' → Head p family own_rate k alike bound (opened_before (opened first lanes) next' rest'))
        → (Fits p family own_rate known second → Head p family own_rate k alike bound (opened_before (opened second lanes) next rest))
        → (what : Option VarId) → declares first ≡ what
        → Head p family own_rate k alike bound (opened_before (opened first lanes) (task (Run second) lanes ∷ next) (opened_before (opened second lanes) next rest))
    then_head bound known w first second lanes f g a next rest c go_first go_second None is =
        let g' : Fits p family own_rate known second = subst (λ what. Fits p family own_rate (known_with what known) second) is g in
        go_first (task (Run second) lanes ∷ next) (opened_before (opened second lanes) next rest) (known, within_same known, g', a, c) (go_second g')
    then_head bound known w first second lanes f g a next rest c go_first go_second (Some v) is =
        let d : (m : ℕ) × (v ≡ Local m) × (known m ≡ false) × ((lanes : Lanes) → opened first lanes ≡ task (Run first) lanes ∷ []) = declaring known first v is f in
        let is' : declares first ≡ Some (Local d.0) = is ∙ ap (λ x. Some x) d.1 in
        let g' : Fits p family own_rate (with_local d.0 known) second = subst (λ what. Fits p family own_rate (known_with what known) second) is' g in
        subst (λ xs. Head p family own_rate k alike bound (opened_before xs (task (Run second) lanes ∷ next) (opened_before (opened second lanes) next rest))) (sym (d.3 lanes))
        (head_declares bound known w first second lanes f a d.0 is' g' next c)

    open_head : (bound : Locals) (s : Stmt) (lanes : Lanes) (known : Locals) → Within known bound → Fits p family own_rate known s → (has lanes k ≡ true → (n : ℕ) → known n ≡ true → alike n)
        → (next rest : List Task) → Chain p family own_rate k alike known next → Head p family own_rate k alike bound rest → Head p family own_rate k alike bound (opened_before (opened s lanes) next rest)
    open_head bound Empty lanes known w f a next rest c r = r
    open_head bound (Then first second) lanes known w f a next rest c r =
        subst (Head p family own_rate k alike bound) (sym (opened_then first second lanes next rest))
        (then_head bound known w first second lanes f.0 f.1 a next rest c
        (λ next' rest' c' r'. open_head bound first lanes known w f.0 a next' rest' c' r')
        (λ g. open_head bound second lanes known w g a next rest c r) (declares first) refl)
    open_head bound (Loop number test update body) lanes known w f a next rest c r = head_of bound known w (LoopTest number test update body) lanes f a next c
    open_head bound (BodyFirst number test body) lanes known w f a next rest c r =
        let last : FitsDoing p family own_rate known (LoopTest number test Empty body) = (f.0, tt, f.1) in
        subst (Head p family own_rate k alike bound) (sym (opened_body number test body lanes next rest))
        (open_head bound body lanes known w f.1 a (task (LoopUpdate Empty) lanes ∷ task (LoopTest number test Empty body) lanes ∷ next) (task (LoopTest number test Empty body) lanes ∷ next)
        (known, within_same known, tt, a, (known, within_same known, last, a, c)) (head_of bound known w (LoopTest number test Empty body) lanes last a next c))
    open_head bound s lanes known w f a next rest c r = head_of bound known w (Run s) lanes f a next c

    task_head : (bound : Locals) (d : Doing) (lanes : Lanes) (known : Locals) → Within known bound → FitsDoing p family own_rate known d → (has lanes k ≡ true → (n : ℕ) → known n ≡ true → alike n)
        → (next rest : List Task) → Chain p family own_rate k alike known next → Head p family own_rate k alike bound rest → Head p family own_rate k alike bound (opened_before (opened_task d lanes) next rest)
    task_head bound (Run s) lanes known w f a next rest c r = open_head bound s lanes known w f a next rest c r
    task_head bound (LoopUpdate s) lanes known w f a next rest c r = open_head bound s lanes known w f a next rest c r
    task_head bound RoundEnd lanes known w f a next rest c r = r
    task_head bound SwitchEnd lanes known w f a next rest c r = r
    task_head bound (LoopTest number test update body) lanes known w f a next rest c r = head_of bound known w (LoopTest number test update body) lanes f a next c
    task_head bound (Round number indices body) lanes known w f a next rest c r = absurd f

    -- the tasks of a settled list
    pub settled_head : (bound : Locals) (ts : List Task) → Chain p family own_rate k alike bound ts → Head p family own_rate k alike bound (settled ts)
    settled_head bound [] c = tt
    settled_head bound (t ∷ ts) c =
        let rest : Head p family own_rate k alike bound (settled ts) = settled_head bound ts (chain_wider alike c.0 bound c.1 ts c.4) in
        by_first (Head p family own_rate k alike bound) t ts rest (λ some. task_head bound t.doing t.lanes c.0 c.1 c.2 c.3 ts (settled ts) c.4 rest)
