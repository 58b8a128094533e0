-- Functions that were found, as marks and as a list of their numbers, and those that lead to them by calls.
use Rattle.std.specs.Prelude.{◌≡◌, ℕ, suc, ◌<◌, Bool, true, false, List, [], ◌∷◌, length, get_or, Some, Contains, if◌then◌else◌, slice_get, slice_set}
use Rattle.gang_model.specs.Running.LanePure.{is_pure_function}
use Rattle.gang_model.specs.Source.Parsed.{ParsedFunction}
use Rattle.gang_model.specs.Types.Tree.{Function}

-- how many marks are set
abbrev pub set_marks : List Bool → ℕ
set_marks [] = 0
set_marks (true ∷ marks) = suc (set_marks marks)
set_marks (false ∷ marks) = set_marks marks

-- a list has each function that is marked once, and no other
pub record IsListed (marks : List Bool) (order : List ℕ) : Type 0 where
  pub sound : (k n : ℕ) → slice_get order k ≡ Some n → slice_get marks n ≡ Some true
  pub complete : (n : ℕ) → slice_get marks n ≡ Some true → Contains order n
  pub once : length order ≡ set_marks marks

-- a list is a front of another
abbrev pub Keeps : (old new : List ℕ) → Type 0
Keeps old new = (k n : ℕ) → slice_get old k ≡ Some n → slice_get new k ≡ Some n

-- the marks with those of some functions
abbrev pub with_all : List ℕ → List Bool → List Bool
with_all [] marks = marks
with_all (n ∷ numbers) marks = with_all numbers (slice_set marks n true)

-- the marks with those of the functions from a number on that are not lane-pure by themselves
abbrev pub with_impure : (first : ℕ) → List ParsedFunction → List Function → List Bool → List Bool
with_impure first [] functions marks = marks
with_impure first (w ∷ written) [] marks = marks
with_impure first (w ∷ written) (f ∷ functions) marks = with_impure (suc first) written functions (if is_pure_function w f then marks else slice_set marks first true)

-- a function is marked, or calls one that leads to a marked one
pub data Leads (callers : List (List ℕ)) (marks : List Bool) : ℕ → Type 0 where
  is_marked : {n : ℕ} → slice_get marks n ≡ Some true → Leads callers marks n
  by_call : {n m : ℕ} → Contains (get_or callers m []) n → Leads callers marks m → Leads callers marks n

-- marks of the functions that lead to those that were marked
pub record IsSpread (callers : List (List ℕ)) (old new : List Bool) : Type 0 where
  pub all : length new ≡ length old
  pub keeps : (n : ℕ) → slice_get old n ≡ Some true → slice_get new n ≡ Some true
  pub sound : (n : ℕ) → slice_get new n ≡ Some true → Leads callers old n
  pub closed : (n m : ℕ) → Contains (get_or callers m []) n → slice_get new m ≡ Some true → n < length new → slice_get new n ≡ Some true
