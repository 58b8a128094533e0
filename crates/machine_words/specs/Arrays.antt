-- Where the elements of arrays lie among all words.
use Rattle.std.specs.Prelude.{◌≡◌, ℕ, ◌+◌, ◌<◌, ◌≤◌, true, List, Option, Some, None, Result, Ok, Err}
use Rattle.gang_types.specs.declared.places.VarId.{VarId}
use Rattle.gang_types.specs.declared.faults.FaultName.{FaultName}
use Rattle.gang_types.specs.Lanes.{Lanes, has}
use Rattle.gang_model.specs.Running.Lanes.{Fault, at}
use Rattle.gang_model.specs.Running.State.{State, View}
use Rattle.gang_model.specs.Running.Step.{part}
use Rattle.gang_model.specs.Running.Value.{value}
use Rattle.gang_model.specs.Types.Tree.{Expr}
use Rattle.cross_lane.specs.Calls.{fault_of}
use Rattle.gang_memory.specs.declared.parts.Part.{Part}
use Rattle.gang_memory.specs.declared.layout.Layout.{Layout}
use Rattle.gang_memory.specs.Ranges.{range}
use Rattle.machine_states.specs.ArrayParts.{array_region}
use Rattle.machine_words.specs.declared.views.View.{View as MachineView}
use Rattle.machine_words.specs.Ranges.{range_of}
use Rattle.machine_words.specs.Views.{view_view}

-- a range, an empty one where there is none
abbrev pub or_nothing : Option Part → Part
or_nothing None = range 0 0
or_nothing (Some part) = part

-- the range of an array's elements
abbrev pub array_range : (width : ℕ) → Layout → VarId → Part
array_range width layout array = or_nothing (range_of width layout (array_region array))

-- a part of an array lies there
pub record LiesIn (width : ℕ) (layout : Layout) (view : View) (part : Part) : Type 0 where
  pub first : part.first ≡ (array_range width layout view.array).first + view.first
  pub len : part.len ≡ view.len

-- the part of an array that is answered, or the fault
abbrev pub view_answer : Result MachineView (ℕ × FaultName) → Result View Fault
view_answer (Ok view) = Ok (view_view view)
view_answer (Err found) = Err (fault_of found)

-- for each expression that has these indices in the lanes, the answer is the definition's part
abbrev pub IsPartAt : MachineView → Lanes → (indices : List ℕ) → Result MachineView (ℕ × FaultName) → Type 0
IsPartAt view lanes indices result =
    (from : Expr) (state : State) → value from lanes state ≡ Ok indices → view_answer result ≡ part (Some from) (view_view view) lanes state

-- the lowest lane of the set whose index is above a length
pub record IsFirstPast (len : ℕ) (lanes : Lanes) (indices : List ℕ) (lane : ℕ) : Type 0 where
  pub active : has lanes lane ≡ true
  pub past : len < at indices lane
  pub below : (k : ℕ) → k < lane → has lanes k ≡ true → at indices k ≤ len

-- no index is
abbrev pub AreAtMost : (len : ℕ) → Lanes → (indices : List ℕ) → Type 0
AreAtMost len lanes indices = (k : ℕ) → has lanes k ≡ true → at indices k ≤ len
