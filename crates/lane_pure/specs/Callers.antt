-- The functions that call each function, as a list of their numbers for each.
use Rattle.std.specs.Prelude.{◌≡◌, ℕ, zero, suc, ◌<◌, List, [], ◌∷◌, ◌++◌, length, map, get_or, Some, Vec, Contains, slice_get}
use Rattle.std.specs.declared.alloc.Global.{Global}
use Rattle.gang_model.specs.Running.LanePure.{Calls}
use Rattle.gang_model.specs.Types.Tree.{Stmt, Then, If, Loop, BodyFirst, Switch, Segment, Call, Function, Program}

-- the lists, without where they lie in memory
abbrev pub lists : List (Vec ℕ Global) → List (List ℕ)
lists callers = map (λ list. list.items) callers

-- the lists with one more caller of a function
abbrev pub with_caller : (caller function : ℕ) → List (List ℕ) → List (List ℕ)
with_caller caller function [] = []
with_caller caller zero (list ∷ callers) = (list ++ caller ∷ []) ∷ callers
with_caller caller (suc function) (list ∷ callers) = list ∷ with_caller caller function callers

-- the lists with a caller of each function that a statement calls
abbrev pub with_calls : (caller : ℕ) → Stmt → List (List ℕ) → List (List ℕ)
with_calls caller (Then first rest) callers = with_calls caller rest (with_calls caller first callers)
with_calls caller (If number e first other) callers = with_calls caller other (with_calls caller first callers)
with_calls caller (Loop number e update body) callers = with_calls caller body (with_calls caller update callers)
with_calls caller (BodyFirst number e body) callers = with_calls caller body callers
with_calls caller (Switch number e segments) callers = with_calls caller segments callers
with_calls caller (Segment label body rest) callers = with_calls caller rest (with_calls caller body callers)
with_calls caller (Call number function args result_for) callers = with_caller caller function callers
with_calls caller s callers = callers

-- the lists with the callers from a function on
abbrev pub with_functions : (first : ℕ) → List Function → List (List ℕ) → List (List ℕ)
with_functions first [] callers = callers
with_functions first (f ∷ functions) callers = with_functions (suc first) functions (with_calls first f.body callers)

-- a function of a program has a call of another
abbrev pub IsCaller : Program → (caller function : ℕ) → Type 0
IsCaller p caller function = (f : Function) × (slice_get p.functions caller ≡ Some f) × Calls function f.body

-- a list for each function of a program, with exactly its callers
pub record AreCallers (p : Program) (callers : List (List ℕ)) : Type 0 where
  pub all : length callers ≡ length p.functions
  pub sound : (n m : ℕ) → Contains (get_or callers m []) n → IsCaller p n m
  pub complete : (n m : ℕ) → IsCaller p n m → m < length p.functions → Contains (get_or callers m []) n
