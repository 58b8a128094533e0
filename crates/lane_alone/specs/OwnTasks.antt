-- What one lane has to do, of a frame's tasks, and what holds of a frame's tasks.
use Rattle.std.specs.Prelude.{◌≡◌, ℕ, Bool, true, false, List, [], ◌∷◌, ◌++◌, Option, Some, None, ◌⊎◌, if◌then◌else◌}
use Rattle.gang_types.specs.declared.types.Rate.{Rate}
use Rattle.gang_types.specs.declared.places.VarId.{VarId}
use Rattle.gang_types.specs.declared.places.VarId.TheVariants.{Local}
use Rattle.gang_types.specs.Lanes.{Lanes, has, no_lane}
use Rattle.gang_model.specs.Types.Tree.{Stmt, Empty, Then, Loop, BodyFirst, Program}
use Rattle.gang_model.specs.Running.State.{Doing, Run, LoopTest, LoopUpdate, Round, RoundEnd, SwitchEnd, Task}
use Rattle.gang_model.specs.Running.Step.{ends_break, ends_turn}
use Rattle.lane_alone.specs.Fits.{Locals, with_local, Within, Family, FitsDoing, declares}

-- what lane k has to do, in order
abbrev pub own : ℕ → List Task → List Doing
own k [] = []
own k (t ∷ ts) = if has t.lanes k then t.doing ∷ own k ts else own k ts

-- ---- settling for one lane

abbrev pub own_before : List Doing → List Doing → List Doing → List Doing
own_before [] next rest = rest
own_before (d ∷ ds) next rest = (d ∷ ds) ++ next

abbrev pub own_opened : Stmt → List Doing
own_opened Empty = []
own_opened (Then first rest) = own_before (own_opened first) (Run rest ∷ []) (own_opened rest)
own_opened (Loop number test update body) = LoopTest number test update body ∷ []
own_opened (BodyFirst number test body) = own_before (own_opened body) (LoopUpdate Empty ∷ LoopTest number test Empty body ∷ []) (LoopTest number test Empty body ∷ [])
own_opened s = Run s ∷ []

abbrev pub own_task : Doing → List Doing
own_task (Run s) = own_opened s
own_task (LoopUpdate s) = own_opened s
own_task RoundEnd = []
own_task SwitchEnd = []
own_task doing = doing ∷ []

abbrev pub own_settled : List Doing → List Doing
own_settled [] = []
own_settled (d ∷ ds) = own_before (own_task d) ds (own_settled ds)

-- ---- leaving for one lane

abbrev pub after_first : (Doing → Bool) → List Doing → List Doing
after_first test [] = []
after_first test (d ∷ ds) = if test d then ds else after_first test ds

abbrev pub from_first : (Doing → Bool) → List Doing → List Doing
from_first test [] = []
from_first test (d ∷ ds) = if test d then d ∷ ds else from_first test ds

-- ---- steps

abbrev pub IsStepStmt : Stmt → Type 0
IsStepStmt Empty = ⊥
IsStepStmt (Then first rest) = ⊥
IsStepStmt (Loop number test update body) = ⊥
IsStepStmt (BodyFirst number test body) = ⊥
IsStepStmt s = Unit {0}

abbrev pub IsStep : Doing → Type 0
IsStep (Run s) = IsStepStmt s
IsStep (LoopUpdate s) = ⊥
IsStep (LoopTest number test update body) = Unit {0}
IsStep (Round number indices body) = Unit {0}
IsStep RoundEnd = ⊥
IsStep SwitchEnd = ⊥

-- the first task is a step of some lane
abbrev pub IsSettled : List Task → Type 0
IsSettled [] = Unit {0}
IsSettled (t ∷ ts) = (no_lane t.lanes ≡ false) × IsStep t.doing

abbrev pub OwnSettled : List Doing → Type 0
OwnSettled [] = Unit {0}
OwnSettled (d ∷ ds) = IsStep d

-- ---- what holds of tasks

-- each set of lanes has a property
abbrev pub AllLanes : (Lanes → Type 0) → List Task → Type 0
AllLanes Q [] = Unit {0}
AllLanes Q (t ∷ ts) = Q t.lanes × AllLanes Q ts

-- whether the first task that passes the test is one of lane k, if there is one
abbrev pub first_has : (Doing → Bool) → ℕ → List Task → Bool
first_has test k [] = true
first_has test k (t ∷ ts) = if test t.doing then has t.lanes k else first_has test k ts

-- where lane k has a task, it has the end of the loop or switch around it, and the end of the turn
abbrev pub Inside : ℕ → List Task → Type 0
Inside k ts = (first_has ends_break k ts ≡ true) × (first_has ends_turn k ts ≡ true)

abbrev pub Nested : ℕ → List Task → Type 0
Nested k [] = Unit {0}
Nested k (t ∷ ts) = (has t.lanes k ≡ true → Inside k ts) × Nested k ts

-- ---- the variables that tasks may name

-- each task fits with some of the variables that the tasks before it may name; those that lane k may name are alike
abbrev pub Chain : Program → Family → Rate → ℕ → (ℕ → Type 0) → Locals → List Task → Type 0
Chain p family own_rate k alike bound [] = Unit {0}
Chain p family own_rate k alike bound (t ∷ ts) =
    (known : Locals) × Within known bound × FitsDoing p family own_rate known t.doing × (has t.lanes k ≡ true → (n : ℕ) → known n ≡ true → alike n)
    × Chain p family own_rate k alike known ts

-- the first task may name a variable that is about to be declared
pub record Declaring (p : Program) (family : Family) (own_rate : Rate) (k : ℕ) (alike : ℕ → Type 0) (known : Locals) (what : Option VarId) (lanes : Lanes) (ts : List Task) : Type 0 where
  pub m : ℕ
  pub what_is : what ≡ Some (Local m)
  pub next : Task
  pub rest : List Task
  pub tasks : ts ≡ next ∷ rest
  pub fits : FitsDoing p family own_rate (with_local m known) next.doing
  pub among : has next.lanes k ≡ true → has lanes k ≡ true
  pub chain : Chain p family own_rate k alike known rest

-- the tasks after a step by these lanes that declares a variable, or none
abbrev pub Behind : Program → Family → Rate → ℕ → (ℕ → Type 0) → Locals → Option VarId → Lanes → List Task → Type 0
Behind p family own_rate k alike known what lanes ts = Chain p family own_rate k alike known ts ⊎ Declaring p family own_rate k alike known what lanes ts

abbrev pub declared_by : Doing → Option VarId
declared_by (Run s) = declares s
declared_by doing = None

-- the tasks of a settled list
abbrev pub Head : Program → Family → Rate → ℕ → (ℕ → Type 0) → Locals → List Task → Type 0
Head p family own_rate k alike bound [] = Unit {0}
Head p family own_rate k alike bound (t ∷ ts) =
    (known : Locals) × Within known bound × FitsDoing p family own_rate known t.doing × (has t.lanes k ≡ true → (n : ℕ) → known n ≡ true → alike n)
    × Behind p family own_rate k alike known (declared_by t.doing) t.lanes ts
