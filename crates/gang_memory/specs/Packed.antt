-- What packed calls give: the lanes of a set take the elements of their ranks.
use Rattle.std.specs.Prelude.{ℕ, List, Result, Ok, Err}
use Rattle.gang_types.specs.declared.faults.FaultName.{FaultName}
use Rattle.gang_types.specs.Lanes.{Lanes}
use Rattle.gang_model.specs.Running.Lanes.{Fault, each}
use Rattle.gang_model.specs.Running.Library.{rank}
use Rattle.cross_lane.specs.Calls.{fault_of}
use Rattle.gang_memory.specs.declared.packed.Loaded.{Loaded}
use Rattle.gang_memory.specs.declared.parts.Part.{Part}
use Rattle.gang_memory.specs.Elements.{IsLoad, IsStore, StoresInArrays}

-- the words that lanes got, or the fault
abbrev pub loaded_answer : {w : ℕ} → Result (Loaded w) (ℕ × FaultName) → Result (List ℕ) Fault
loaded_answer (Ok loaded) = Ok loaded.words
loaded_answer (Err found) = Err (fault_of found)

-- the rank of each lane of the set, and 0 in the others
abbrev pub ranks_of : Lanes → List ℕ
ranks_of lanes = each lanes (rank lanes)

-- each lane of the set has the element of its rank
abbrev pub IsPackedLoad : {w : ℕ} → (words : List ℕ) → Part → Lanes → Result (Loaded w) (ℕ × FaultName) → Type 0
IsPackedLoad words part lanes result = IsLoad words part lanes (rank lanes) (loaded_answer result)

-- each lane of the set stored to the element of its rank
abbrev pub IsPackedStore : {A : Type 0} → Part → Lanes → (values old : List ℕ)
    → Result A (ℕ × FaultName) → (new : List ℕ) → Type 0
IsPackedStore part lanes values old result new =
    IsStore part lanes (rank lanes) (ranks_of lanes) values old result new

-- each array that the part lies in, and that stood among the words, stands there after the packed store
abbrev pub PacksIntoArrays : Part → Lanes → (values old new : List ℕ) → Type 0
PacksIntoArrays part lanes values old new = StoresInArrays part lanes (ranks_of lanes) values old new
