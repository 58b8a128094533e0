-- The arrays among the words of a machine: each has a region of its own, and the region of an array parameter keeps the part of an
-- array that it stands for (a choice of this project).
use Rattle.std.specs.Prelude.{◌≡◌, ℕ, ◌+◌, ◌≤◌, ◌==◌, nat_le, List, [], ◌∷◌, Result, length, if◌then◌else◌}
use Rattle.gang_types.specs.declared.places.VarId.{VarId}
use Rattle.gang_types.specs.declared.places.VarId.TheVariants.{File, Local}
use Rattle.gang_types.specs.Lanes.{Lanes}
use Rattle.gang_model.specs.Running.Lanes.{Fault, at, try_each}
use Rattle.gang_model.specs.Running.State.{State, Store, View, words_of}
use Rattle.gang_model.specs.Running.Value.{element}
use Rattle.machine_states.specs.Regions.{OfEntry, OfFile, OfLocal, Region, Regions}

-- where an array has its elements: one of the file, or one that the entry is given for its parameter of this number
abbrev pub array_region : VarId → Region
array_region (File k) = OfFile k
array_region (Local k) = OfEntry k

-- the regions have the words of a store of arrays, and of the file's scalars
abbrev pub AreMemory : Regions → Store → Type 0
AreMemory regions memory = (v : VarId) → words_of memory v ≡ regions (array_region v)

-- a part lies in its array
abbrev pub IsInside : Regions → View → Type 0
IsInside regions view = view.first + view.len ≤ length (regions (array_region view.array))

-- the part of an array that four words keep: whether the array is one of the entry's, its number, the first element, how many there are
abbrev pub view_of_words : List ℕ → View
view_of_words words = record { array = if at words 0 == 0 then File (at words 1) else Local (at words 1); first = at words 2; len = at words 3 }

-- a name that stands for no part of an array
abbrev pub no_view : VarId → View
no_view v = record { array = v; first = 0; len = 0 }

-- the part of an array that words keep, if it is one
abbrev pub view_kept : Regions → VarId → List ℕ → View
view_kept regions v [] = no_view v
view_kept regions v (word ∷ words) =
    let view = view_of_words (word ∷ words) in
    if nat_le (view.first + view.len) (length (regions (array_region view.array))) then view else no_view v

-- the part of an array that a name stands for in a frame: a file-scope array whole, for a parameter what its words keep
abbrev pub view_at : Regions → (frame : ℕ) → VarId → View
view_at regions frame (File k) = record { array = File k; first = 0; len = length (regions (OfFile k)) }
view_at regions frame (Local k) = view_kept regions (Local k) (regions (OfLocal frame k))

-- for each state whose arrays these are, the answer is the definition's: the elements that the lanes name, or the first fault
abbrev pub ReadsElements : Regions → View → Lanes → (index : ℕ → ℕ) → Result (List ℕ) Fault → Type 0
ReadsElements regions view lanes index answer =
    (state : State) → AreMemory regions state.memory → answer ≡ try_each lanes (λ k. element state view (index k))
