-- What it means that the lanes of a lane-pure function are instances of their own: a lane of a call does alone, in a gang of any
-- width, what it does among the lanes of the call (ISPC User's Guide, "Program Instances and Gangs of Program Instances").
-- The premises hold of each state of a run and each call in it. They leave out stores and arguments that no program has:
-- `IsOfGang` those in which a varying variable has no word for some lane, which one run would write and the other would not;
-- `ArePassed` parameters of that kind, and an array parameter that stands for a scalar, which other lanes write. The source is
-- that of the program, since the signatures are read from it.
use Rattle.std.specs.Prelude.{◌≡◌, ℕ, ◌<◌, ◌≤◌, true, false, List, All, length, slice_get, Some}
use Rattle.gang_types.specs.declared.types.Rate.TheVariants.{Varying}
use Rattle.gang_types.specs.declared.places.VarId.{VarId}
use Rattle.gang_types.specs.declared.places.VarId.TheVariants.{File, Local}
use Rattle.gang_types.specs.Lanes.{Lanes, has}
use Rattle.gang_model.specs.Running.Lanes.{at}
use Rattle.gang_model.specs.Types.Tree.{Global, Program}
use Rattle.gang_model.specs.Types.Resolved.{program_of}
use Rattle.gang_model.specs.Source.Parsed.{ParsedSource, ParsedParam, ParsedFunction, functions_in}
use Rattle.gang_model.specs.Running.State.{Store, Frame, State, words_of, view_in}
use Rattle.gang_model.specs.Running.Step.{Passed}
use Rattle.gang_model.specs.Running.Rounds.{lone}
use Rattle.gang_model.specs.Running.LanePure.{IsLanePure, Leaves}

-- ---- a gang's states and arguments

-- a varying scalar of the file
abbrev pub IsVaryingScalar : Program → ℕ → Type 0
IsVaryingScalar p n = (g : Global) × (slice_get p.globals n ≡ Some g) × (g.variable.is_array ≡ false) × (g.variable.rate ≡ Varying)

-- an array of the file, or of the entry
abbrev pub IsArrayId : Program → VarId → Type 0
IsArrayId p (File n) = (g : Global) × (slice_get p.globals n ≡ Some g) × (g.variable.is_array ≡ true)
IsArrayId p (Local n) = Unit {0}

-- a parameter that is no array
abbrev pub IsScalarParam : List ParsedParam → ℕ → Type 0
IsScalarParam params n = (param : ParsedParam) × (slice_get params n ≡ Some param) × (param.is_array ≡ false)

-- the sets of lanes of a frame are of w lanes
abbrev pub IsFrameOfGang : ℕ → Frame → Type 0
IsFrameOfGang w frame = (length frame.lanes ≡ w) × All (λ t. length t.lanes ≡ w) frame.tasks

-- a state of a gang of w lanes: its sets of lanes are of w lanes, and a varying scalar of the file has a word for each lane
pub record IsOfGang (p : Program) (w : ℕ) (state : State) : Type 0 where
  pub frames : All (IsFrameOfGang w) state.frames
  pub scalars : (n : ℕ) → IsVaryingScalar p n → length (words_of state.memory (File n)) ≡ w

-- arguments of a gang of w lanes, none of them uniform: a scalar has a word for each lane, and a part is one of an array
pub record ArePassed (p : Program) (params : List ParsedParam) (w : ℕ) (arguments : Passed) : Type 0 where
  pub scalars : (n : ℕ) → IsScalarParam params n → length (words_of arguments.vars (Local n)) ≡ w
  pub arrays : (n : ℕ) → IsArrayId p (view_in arguments.views (Local n)).array

-- ---- what a lane sees

-- two memories have the same word in one lane of each varying file-scope variable
abbrev pub SameInLane : Program → ℕ → Store → Store → Type 0
SameInLane p k memory other =
    (n : ℕ) (g : Global) → slice_get p.globals n ≡ Some g → g.variable.rate ≡ Varying → at (words_of memory g.variable.id) k ≡ at (words_of other g.variable.id) k

-- two memories have the same arrays, those of the file and those of the entry
abbrev pub SameArrays : Program → Store → Store → Type 0
SameArrays p memory other =
    ((n : ℕ) (g : Global) → slice_get p.globals n ≡ Some g → g.variable.is_array ≡ true → words_of memory g.variable.id ≡ words_of other g.variable.id)
    × ((n : ℕ) → words_of memory (Local n) ≡ words_of other (Local n))

-- two calls have the same arguments in one lane, and the same parts of arrays
abbrev pub SameArguments : List ParsedParam → ℕ → Passed → Passed → Type 0
SameArguments params k arguments other =
    ((n : ℕ) → IsScalarParam params n → at (words_of arguments.vars (Local n)) k ≡ at (words_of other.vars (Local n)) k)
    × ((v : VarId) → view_in arguments.views v ≡ view_in other.views v)

-- the results of two top frames are the same in one lane
abbrev pub SameResult : ℕ → Frame → Frame → Type 0
SameResult k frame other = at frame.result k ≡ at other.result k

-- ---- a lane alone

-- a lane of a call does alone, in a gang of any width, what it does among the lanes of the call, in as many steps or fewer
abbrev pub IsSeparate : Program → List ParsedParam → ℕ → Type 0
IsSeparate p params f =
    (lanes : Lanes) (arguments : Passed) (state : State) (n : ℕ) (last : State) →
    IsOfGang p (length lanes) state → ArePassed p params (length lanes) arguments → Leaves p f lanes arguments state n last →
    (k width : ℕ) → has lanes k ≡ true → k < width →
    (alone : Passed) (before : State) → IsOfGang p width before → ArePassed p params width alone →
    length before.frames ≡ length state.frames → SameArguments params k arguments alone →
    SameArrays p state.memory before.memory → SameInLane p k state.memory before.memory →
    (m : ℕ) × (after : State) × (m ≤ n) × Leaves p f (lone width k) alone before m after
    × SameInLane p k last.memory after.memory
    × ((frame other : Frame) → slice_get last.frames 0 ≡ Some frame → slice_get after.frames 0 ≡ Some other → SameResult k frame other)

-- so does a lane of a call of this function of a source
abbrev pub HasSeparateLanes : ParsedSource → ℕ → Type 0
HasSeparateLanes source f =
    (p : Program) (written : ParsedFunction) → program_of source ≡ Some p → slice_get (functions_in source) f ≡ Some written → IsSeparate p written.params f

-- the lanes of the lane-pure functions of a source are instances of their own
abbrev pub HasSeparateInstances : ParsedSource → Type 0
HasSeparateInstances source = (p : Program) → program_of source ≡ Some p → (f : ℕ) → IsLanePure source p f → HasSeparateLanes source f
