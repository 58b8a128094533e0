-- What a running program holds: the file's variables and arrays, and a frame for each call that has not been left, with what it
-- has still to do and by which lanes (ISPC User's Guide, "Control Flow" and "Program Instances"; the list of tasks is a choice of this project).
use Rattle.std.specs.Prelude.{ℕ, Bool, false, ◌==◌, List, [], ◌∷◌, Option, if◌then◌else◌, length}
use Rattle.gang_types.specs.declared.types.Rate.{Rate}
use Rattle.gang_types.specs.declared.types.Rate.TheVariants.{Uniform, Varying}
use Rattle.gang_types.specs.declared.places.VarId.{VarId}
use Rattle.gang_types.specs.declared.places.VarId.TheVariants.{File, Local}
use Rattle.gang_types.specs.Lanes.{Lanes, lowest}
use Rattle.gang_model.specs.Running.Lanes.{each, at, merged}
use Rattle.gang_model.specs.Types.Tree.{Expr, Stmt, StepNumber, ResultFor}

-- whether two variables are the same one
abbrev pub same_id : VarId → VarId → Bool
same_id (File m) (File n) = m == n
same_id (File m) (Local n) = false
same_id (Local m) (File n) = false
same_id (Local m) (Local n) = m == n

-- the words of each declared variable: one of a uniform scalar, one for each lane of a varying one, one for each element of an array
abbrev pub Store : Type 0
Store = List (VarId × List ℕ)

-- a variable's words, none where it is not declared
abbrev pub words_of : Store → VarId → List ℕ
words_of [] v = []
words_of (entry ∷ store) v = if same_id entry.0 v then entry.1 else words_of store v

-- the store with a variable's words set
abbrev pub with_words : Store → VarId → List ℕ → Store
with_words [] v words = (v, words) ∷ []
with_words (entry ∷ store) v words = if same_id entry.0 v then (v, words) ∷ store else entry ∷ with_words store v words

-- a part of an array: the elements from the first one on, so many
pub record View : Type 0 where
  pub array : VarId
  pub first : ℕ
  pub len : ℕ

-- what a task does; its lanes stand beside it
pub data Doing : Type 0 where
  -- a statement
  Run : Stmt → Doing
  -- a loop's test, with the loop's update and body
  LoopTest : StepNumber → Expr → (update body : Stmt) → Doing
  -- a loop's update
  LoopUpdate : Stmt → Doing
  -- a round of a foreach form, with the words of its index variables
  Round : StepNumber → (indices : Store) → (body : Stmt) → Doing
  RoundEnd : Doing
  SwitchEnd : Doing

-- what is to be done, and by which lanes
pub record Task : Type 0 where
  pub doing : Doing
  pub lanes : Lanes

-- a call that has not been left: its function, the lanes of the call, the step of the frame below that made it (none for
-- the entry), what the result is for, array parameters, declared variables, the result so far, and the tasks in order
pub record Frame : Type 0 where
  pub function : ℕ
  pub lanes : Lanes
  pub call : Option StepNumber
  pub result_for : ResultFor
  pub views : List (VarId × View)
  pub vars : Store
  pub result : List ℕ
  pub tasks : List Task

-- the file's variables with all arrays, and the frames, the top one first; with no frame the program has ended
pub record State : Type 0 where
  pub memory : Store
  pub frames : List Frame

-- the words of a variable of the top frame
abbrev pub local_words : List Frame → VarId → List ℕ
local_words [] v = []
local_words (frame ∷ frames) v = words_of frame.vars v

-- the words of a variable that is in scope
abbrev pub words_in : State → VarId → List ℕ
words_in state (File n) = words_of state.memory (File n)
words_in state (Local n) = local_words state.frames (Local n)

-- the frames with the top one changed
abbrev pub with_first : (Frame → Frame) → List Frame → List Frame
with_first change [] = []
with_first change (frame ∷ frames) = change frame ∷ frames

-- the state with its top frame changed
abbrev pub on_top : (Frame → Frame) → State → State
on_top change state = record state { frames = with_first change state.frames }

-- the frame with a variable's words set
abbrev pub with_var : VarId → List ℕ → Frame → Frame
with_var v words frame = record frame { vars = with_words frame.vars v words }

-- the state with a variable's words set
abbrev pub with_words_in : State → VarId → List ℕ → State
with_words_in state (File n) words = record state { memory = with_words state.memory (File n) words }
with_words_in state (Local n) words = on_top (with_var (Local n) words) state

-- the part of an array that a parameter stands for
abbrev pub view_in : List (VarId × View) → VarId → View
view_in [] v = record { array = v; first = 0; len = 0 }
view_in (entry ∷ views) v = if same_id entry.0 v then entry.1 else view_in views v

-- the part of an array that a parameter of the top frame stands for
abbrev pub local_view : List Frame → VarId → View
local_view [] v = view_in [] v
local_view (frame ∷ frames) v = view_in frame.views v

-- the part of an array that a name stands for: a file-scope array whole
abbrev pub view_of : State → VarId → View
view_of state (File n) = record { array = File n; first = 0; len = length (words_of state.memory (File n)) }
view_of state (Local n) = local_view state.frames (Local n)

-- how many words a scalar has: a uniform one has one, a varying one has one for each lane
abbrev pub words_for : (width : ℕ) → Rate → ℕ
words_for width Uniform = 1
words_for width Varying = width

-- a variable's words as values of the lanes that read it
abbrev pub seen : Rate → Lanes → List ℕ → List ℕ
seen Uniform lanes words = each lanes (λ k. at words 0)
seen Varying lanes words = each lanes (λ k. at words k)

-- a variable's words after its declaration by these lanes: 0 in other lanes; a uniform one gets the value once
abbrev pub declared_words : Rate → Lanes → List ℕ → List ℕ
declared_words Uniform lanes values = at values (lowest lanes) ∷ []
declared_words Varying lanes values = each lanes (λ k. at values k)

-- a variable's words after an assignment by these lanes: the old ones in other lanes; a uniform one gets the value once
abbrev pub assigned_words : Rate → Lanes → List ℕ → List ℕ → List ℕ
assigned_words Uniform lanes values old = at values (lowest lanes) ∷ []
assigned_words Varying lanes values old = merged lanes values old
