-- The elements of arrays among the words of a store.
use Rattle.std.specs.Prelude.{◌≡◌, ℕ, ◌+◌, ◌<◌, ◌≤◌, List, length, slice_index, Result, Ok, Err}
use Rattle.gang_types.specs.declared.faults.FaultName.{FaultName}
use Rattle.gang_types.specs.Lanes.{Lanes}
use Rattle.gang_model.specs.Running.Lanes.{Fault, ◌>>=◌, at, each, try_each}
use Rattle.gang_model.specs.Running.State.{State, View, words_of}
use Rattle.gang_model.specs.Running.Step.{scattered_from}
use Rattle.gang_model.specs.Running.Value.{element}
use Rattle.cross_lane.specs.Calls.{fault_of}
use Rattle.gang_memory.specs.declared.parts.Part.{Part}

-- the words of a part are the elements of a state's view
pub record Shows (words : List ℕ) (part : Part) (state : State) (view : View) : Type 0 where
  pub long : part.len ≡ view.len
  pub elements : (i : ℕ) → i < part.len
      → slice_index words (part.first + i) ≡ at (words_of state.memory view.array) (view.first + i)

-- the words from `base` on are those of a list
pub record StandsAt (base : ℕ) (list words : List ℕ) : Type 0 where
  pub inside : base + length list ≤ length words
  pub same : (i : ℕ) → i < length list → slice_index words (base + i) ≡ slice_index list i

-- the part of an array from its element `first` on, where the array's words begin at `base`
pub record IsPartOf (base : ℕ) (array : List ℕ) (first : ℕ) (part : Part) : Type 0 where
  pub begins : part.first ≡ base + first
  pub inside : first + part.len ≤ length array

-- for each state and view that the part shows, the answer is the definition's: the elements that the lanes name
abbrev pub IsLoad : (words : List ℕ) → Part → Lanes → (index : ℕ → ℕ) → (answer : Result (List ℕ) Fault) → Type 0
IsLoad words part lanes index answer =
    (state : State) (view : View) → Shows words part state view
    → answer ≡ try_each lanes (λ k. element state view (index k))

-- the words that are left, or the fault
abbrev pub stored_answer : {A : Type 0} → Result A (ℕ × FaultName) → List ℕ → Result (List ℕ) Fault
stored_answer (Ok x) words = Ok words
stored_answer (Err found) words = Err (fault_of found)

-- the words after lanes stored to the elements of a part that begins at `first`
abbrev pub stored : (first : ℕ) → Lanes → (indices values words : List ℕ) → List ℕ
stored first lanes indices values words = scattered_from 0 lanes (each lanes (λ k. first + at indices k)) values words

-- these words, unless a lane names an element that is not there
abbrev pub checked_store : State → View → Lanes → (index : ℕ → ℕ) → (after : List ℕ) → Result (List ℕ) Fault
checked_store state view lanes index after = try_each lanes (λ k. element state view (index k)) >>= λ old. Ok after

-- for each state and view that the part shows, the answer and the words that are left are the definition's
abbrev pub IsStore : {A : Type 0} → Part → Lanes → (index : ℕ → ℕ) → (indices values old : List ℕ)
    → Result A (ℕ × FaultName) → (new : List ℕ) → Type 0
IsStore part lanes index indices values old result new =
    (state : State) (view : View) → Shows old part state view
    → stored_answer result new ≡ checked_store state view lanes index (stored part.first lanes indices values old)

-- each array that the part lies in, and that stood among the words, stands there after the store
abbrev pub StoresInArrays : Part → Lanes → (indices values old new : List ℕ) → Type 0
StoresInArrays part lanes indices values old new =
    (base first : ℕ) (array : List ℕ) → IsPartOf base array first part → StandsAt base array old
    → StandsAt base (stored first lanes indices values array) new
