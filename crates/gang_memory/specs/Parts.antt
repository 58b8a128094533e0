-- Where the elements of a part of an array lie among the words of a store.
use Rattle.std.specs.Prelude.{◌≡◌, ℕ, ◌+◌, ◌-◌, ◌<◌, ◌≤◌, true, List, Result, Ok, Err, Some}
use Rattle.gang_types.specs.declared.faults.FaultName.{FaultName}
use Rattle.gang_types.specs.declared.faults.FaultName.TheVariants.{Index}
use Rattle.gang_types.specs.Lanes.{Lanes, has}
use Rattle.gang_model.specs.Running.Lanes.{Fault, at, each}
use Rattle.gang_model.specs.Running.State.{State, View}
use Rattle.gang_model.specs.Running.Step.{part}
use Rattle.gang_model.specs.Running.Value.{value}
use Rattle.gang_model.specs.Types.Tree.{Expr}
use Rattle.cross_lane.specs.Calls.{fault_of}
use Rattle.gang_memory.specs.declared.parts.Part.{Part}

-- the slots of the lanes of the set are among so many words
abbrev pub AreWithin : Lanes → List ℕ → ℕ → Type 0
AreWithin lanes slots words = (k : ℕ) → has lanes k ≡ true → at slots k < words

-- each lane of the set names an element that is there, and these are the elements' slots
pub record AreSlots (part : Part) (lanes : Lanes) (indices slots : List ℕ) : Type 0 where
  pub there : AreWithin lanes indices part.len
  pub slots_are : slots ≡ each lanes (λ k. part.first + at indices k)

-- the fault of the lowest lane of the set that names an element that is not there
pub record IsFirstMissing (part : Part) (lanes : Lanes) (indices : List ℕ) (found : ℕ × FaultName) : Type 0 where
  pub name : found.1 ≡ Index
  pub active : has lanes found.0 ≡ true
  pub missing : part.len ≤ at indices found.0
  pub below : (k : ℕ) → k < found.0 → has lanes k ≡ true → at indices k < part.len

-- a part is a view of an array whose words begin at `base`
abbrev pub LiesAt : (base : ℕ) → View → Part → Type 0
LiesAt base view part = (part.first ≡ base + view.first) × (part.len ≡ view.len)

-- the view of the same array that a part is, or the fault
abbrev pub part_answer : (base : ℕ) → View → Result Part (ℕ × FaultName) → Result View Fault
part_answer base view (Ok part) = Ok (record view { first = part.first - base; len = part.len })
part_answer base view (Err found) = Err (fault_of found)

-- for each view that the whole is, and each expression that has this index in all lanes, the answer is the definition's part
abbrev pub IsPartFrom : (whole : Part) → Lanes → (index : ℕ) → Result Part (ℕ × FaultName) → Type 0
IsPartFrom whole lanes index result =
    (base : ℕ) (view : View) (from : Expr) (state : State) → LiesAt base view whole
    → value from lanes state ≡ Ok (each lanes (λ k. index))
    → part_answer base view result ≡ part (Some from) view lanes state
