-- When a run of lane k alone stands where a run of lane k among others stands.
use Rattle.std.specs.Prelude.{◌≡◌, ℕ, ◌<◌, Bool, true, false, List, [], ◌∷◌, length, Option}
use Rattle.gang_types.specs.declared.types.Rate.{Rate}
use Rattle.gang_types.specs.declared.types.Rate.TheVariants.{Uniform, Varying}
use Rattle.gang_types.specs.declared.places.VarId.{VarId}
use Rattle.gang_types.specs.declared.places.VarId.TheVariants.{File, Local}
use Rattle.gang_types.specs.Lanes.{Lanes, has}
use Rattle.gang_model.specs.Running.Lanes.{at}
use Rattle.gang_model.specs.Types.Tree.{ResultFor, Program}
use Rattle.gang_model.specs.Running.State.{Store, Task, Frame, State, words_of, view_in}
use Rattle.gang_model.specs.Running.Step.{result_rate}
use Rattle.gang_model.specs.Running.SeparateInstances.{IsVaryingScalar, IsArrayId}
use Rattle.lane_alone.specs.Fits.{Only, Locals, FitsResult, Family}
use Rattle.lane_alone.specs.OwnTasks.{own, own_settled, IsSettled, AllLanes, Nested, Chain, Behind, Head}
use Rattle.lane_alone.specs.Fits.{declared_for}

-- words of lane k that are there, and the same
abbrev pub AlikeAt : ℕ → List ℕ → List ℕ → Type 0
AlikeAt k xs ys = (k < length xs) × (k < length ys) × (at xs k ≡ at ys k)

-- a local variable
abbrev pub LocalAlike : ℕ → Store → Store → ℕ → Type 0
LocalAlike k vars other n = AlikeAt k (words_of vars (Local n)) (words_of other (Local n))

-- the file's variables in lane k, and the arrays
pub record MemoryAlike (p : Program) (k : ℕ) (memory other : Store) : Type 0 where
  pub scalars : (n : ℕ) → IsVaryingScalar p n → AlikeAt k (words_of memory (File n)) (words_of other (File n))
  pub arrays : (v : VarId) → IsArrayId p v → words_of memory v ≡ words_of other v

-- frames, but for their tasks and variables
abbrev pub FrameAlike : Program → ℕ → Frame → Frame → Type 0
FrameAlike p k frame other = record {
  same_function : other.function ≡ frame.function;
  same_for : other.result_for ≡ frame.result_for;
  among : has frame.lanes k ≡ has other.lanes k;
  only : Only k other.lanes;
  views : (v : VarId) → view_in frame.views v ≡ view_in other.views v;
  arrays : (n : ℕ) → IsArrayId p (view_in frame.views (Local n)).array;
  result : at frame.result k ≡ at other.result k;
  room : result_rate p frame ≡ Varying → (k < length frame.result) × (k < length other.result);
  idle : result_rate p frame ≡ Uniform → at frame.result k ≡ 0;
}

-- tasks
pub record TasksAlike (k : ℕ) (ts other : List Task) : Type 0 where
  pub same : own_settled (own k ts) ≡ own_settled (own k other)
  pub nested : Nested k ts
  pub nested_other : Nested k other
  pub only : AllLanes (Only k) other

abbrev pub everything : Locals
everything = λ n. true

-- the tasks of a frame that is settled, or not yet
abbrev pub Tops : Bool → Program → Family → Rate → ℕ → (ℕ → Type 0) → List Task → Type 0
Tops true p family own_rate k alike ts = Head p family own_rate k alike everything ts
Tops false p family own_rate k alike ts = Chain p family own_rate k alike everything ts

-- frames that go on
pub record Pair (is_settled : Bool) (p : Program) (family : Family) (k : ℕ) (frame other : Frame) : Type 0 where
  pub frames : FrameAlike p k frame other
  pub tasks : TasksAlike k frame.tasks other.tasks
  pub chain : Tops is_settled p family (result_rate p frame) k (LocalAlike k frame.vars other.vars) frame.tasks

-- frames in which a step by these lanes is being done, which declares a variable or none
pub record Mid (p : Program) (family : Family) (k : ℕ) (known : Locals) (what : Option VarId) (lanes : Lanes) (frame other : Frame) : Type 0 where
  pub frames : FrameAlike p k frame other
  pub tasks : TasksAlike k frame.tasks other.tasks
  pub behind : Behind p family (result_rate p frame) k (LocalAlike k frame.vars other.vars) known what lanes frame.tasks
  pub alike : has lanes k ≡ true → (n : ℕ) → known n ≡ true → LocalAlike k frame.vars other.vars n

-- frames that wait for the result of a call by these lanes of a function whose result has this rate
pub record Waits (p : Program) (family : Family) (k : ℕ) (rate : Rate) (result_for : ResultFor) (lanes : Lanes) (frame other : Frame) : Type 0 where
  pub known : Locals
  pub mid : Mid p family k known (declared_for result_for) lanes frame other
  pub fits : FitsResult p (result_rate p frame) known rate result_for

-- the frames under one that both runs have
pub data Under (p : Program) (family : Family) (k below : ℕ) : Rate → ResultFor → Lanes → List Frame → List Frame → Type 0 where
  base : {rate : Rate} {result_for : ResultFor} {lanes : Lanes} {frames others : List Frame} → length frames ≡ below → length others ≡ below → Under p family k below rate result_for lanes frames others
  caller : {rate : Rate} {result_for : ResultFor} {lanes : Lanes} (frame other : Frame) {frames others : List Frame} → has frame.lanes k ≡ true → Waits p family k rate result_for lanes frame other
      → Under p family k below (result_rate p frame) frame.result_for frame.lanes frames others → Under p family k below rate result_for lanes (frame ∷ frames) (other ∷ others)

-- the frames under one that lane k takes no part in
pub data Over (p : Program) (family : Family) (k below : ℕ) : Rate → ResultFor → Lanes → List Frame → List Frame → Type 0 where
  on_lane : {rate : Rate} {result_for : ResultFor} {lanes : Lanes} (frame other : Frame) {frames others : List Frame} → has frame.lanes k ≡ true → Waits p family k rate result_for lanes frame other
      → Under p family k below (result_rate p frame) frame.result_for frame.lanes frames others → Over p family k below rate result_for lanes (frame ∷ frames) (other ∷ others)
  on_away : {rate : Rate} {result_for : ResultFor} {lanes : Lanes} (frame dummy : Frame) {frames others : List Frame} → has frame.lanes k ≡ false → dummy.tasks ≡ [] → Waits p family k rate result_for lanes frame dummy
      → Over p family k below (result_rate p frame) frame.result_for frame.lanes frames others → Over p family k below rate result_for lanes (frame ∷ frames) others

-- the frames of two runs
pub data Stacks (is_settled : Bool) (p : Program) (family : Family) (k below : ℕ) : List Frame → List Frame → Type 0 where
  together : (frame other : Frame) {frames others : List Frame} → has frame.lanes k ≡ true → Pair is_settled p family k frame other
      → Under p family k below (result_rate p frame) frame.result_for frame.lanes frames others → Stacks is_settled p family k below (frame ∷ frames) (other ∷ others)
  apart : (frame dummy : Frame) {frames others : List Frame} → has frame.lanes k ≡ false → dummy.tasks ≡ [] → Pair is_settled p family k frame dummy
      → Over p family k below (result_rate p frame) frame.result_for frame.lanes frames others → Stacks is_settled p family k below (frame ∷ frames) others

abbrev pub SettledTop : List Frame → Type 0
SettledTop [] = Unit {0}
SettledTop (frame ∷ frames) = IsSettled frame.tasks

-- the state of lane k alone stands for that of lane k among others
pub record Stands (p : Program) (family : Family) (k below : ℕ) (state other : State) : Type 0 where
  pub memory : MemoryAlike p k state.memory other.memory
  pub stacks : Stacks true p family k below state.frames other.frames
  pub settled : SettledTop state.frames
  pub settled_other : SettledTop other.frames
