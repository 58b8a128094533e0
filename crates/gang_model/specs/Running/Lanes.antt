-- A value for each lane of a set: a list of W words, 0 outside the set
-- (ISPC User's Guide, "The ISPC Parallel Execution Model"; which fault is named is a choice of this project).
use Rattle.std.specs.Prelude.{ℕ, suc, Bool, true, false, not, ◌==◌, List, [], ◌∷◌, slice_index, Result, Ok, Err, if◌then◌else◌}
use Rattle.gang_types.specs.declared.faults.FaultName.{FaultName}
use Rattle.gang_types.specs.Lanes.{Lanes}

-- a fault, at its lane
pub record Fault : Type 0 where
  pub name : FaultName
  pub lane : ℕ

infixl 10 ◌>>=◌
-- what comes next, unless there was a fault
abbrev pub ◌>>=◌ : {A B : Type 0} → Result A Fault → (A → Result B Fault) → Result B Fault
Ok x >>= next = next x
Err fault >>= next = Err fault

-- f in each lane of the set, where the first lane is lane k
abbrev pub words_from : ℕ → Lanes → (ℕ → ℕ) → List ℕ
words_from k [] f = []
words_from k (b ∷ lanes) f = (if b then f k else 0) ∷ words_from (suc k) lanes f

-- f k in each lane k of the set, and 0 in the others
abbrev pub each : Lanes → (ℕ → ℕ) → List ℕ
each lanes f = words_from 0 lanes f

-- a fault is that of lane k
abbrev pub in_lane : ℕ → Result ℕ FaultName → Result ℕ Fault
in_lane k (Ok x) = Ok x
in_lane k (Err name) = Err (record { name = name; lane = k })

-- f in lane k, and 0 where the lane is not in the set
abbrev pub one_lane : Bool → ℕ → (ℕ → Result ℕ FaultName) → Result ℕ Fault
one_lane false k f = Ok 0
one_lane true k f = in_lane k (f k)

-- f in each lane of the set or the first fault, where the first lane is lane k
abbrev pub tried_from : ℕ → Lanes → (ℕ → Result ℕ FaultName) → Result (List ℕ) Fault
tried_from k [] f = Ok []
tried_from k (b ∷ lanes) f = do
  x ← one_lane b k f
  xs ← tried_from (suc k) lanes f
  Ok (x ∷ xs)

-- f k in each lane k of the set and 0 in the others, or the fault of the lowest lane that has one
abbrev pub try_each : Lanes → (ℕ → Result ℕ FaultName) → Result (List ℕ) Fault
try_each lanes f = tried_from 0 lanes f

-- the value of lane k
abbrev pub at : List ℕ → ℕ → ℕ
at xs k = slice_index xs k

-- whether the value of lane k is not zero
abbrev pub holds : List ℕ → ℕ → Bool
holds xs k = not (at xs k == 0)

-- the word of a truth value
abbrev pub truth_word : Bool → ℕ
truth_word b = if b then 1 else 0

-- new values in the lanes of the set, and old ones in the others
abbrev pub merged : Lanes → List ℕ → List ℕ → List ℕ
merged [] new old = []
merged (b ∷ lanes) [] old = []
merged (b ∷ lanes) (x ∷ new) [] = []
merged (b ∷ lanes) (x ∷ new) (y ∷ old) = (if b then x else y) ∷ merged lanes new old

-- the lanes of the set in ascending order, where the first lane is lane k
abbrev pub members_from : ℕ → Lanes → List ℕ
members_from k [] = []
members_from k (b ∷ lanes) = if b then k ∷ members_from (suc k) lanes else members_from (suc k) lanes

-- the lanes of the set, in ascending order
abbrev pub members : Lanes → List ℕ
members lanes = members_from 0 lanes
