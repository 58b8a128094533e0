-- The words of a machine, and what a write leaves.
use Rattle.std.specs.Prelude.{◌≡◌, ℕ, ◌+◌, ◌≤◌, List}
use Rattle.undo_log.specs.History.{History}
use Rattle.gang_memory.specs.Recorded.{left_in, without_words}
use Rattle.machine_states.specs.Regions.{Region, Regions}
use Rattle.machine_words.specs.declared.words.MachineWords.{MachineWords}
use Rattle.machine_words.specs.Ranges.{Changes, IsLaid, regions_of}

-- all words, and those of each region
abbrev pub words_of : {T : Type 0} → (history : T → History) → MachineWords T → List ℕ
words_of history machine = (history machine.store.timeline).words

abbrev pub regions_in : {T : Type 0} → (history : T → History) → (width : ℕ) → MachineWords T → Regions
regions_in history width machine = regions_of width machine.layout (words_of history machine)

-- how many words may still be set
abbrev pub left_of : {T : Type 0} → (history : T → History) → (left : T → ℕ) → MachineWords T → ℕ
left_of history left machine = left_in (history machine.store.timeline).past (left machine.store.timeline)

-- the words lie as the layout says
abbrev pub AreLaid : {T : Type 0} → (history : T → History) → (width : ℕ) → MachineWords T → Type 0
AreLaid history width machine = IsLaid width machine.layout (words_of history machine)

-- A region's words are these now, and those of each other are the same; at most so many words were set. The words still lie
-- as the layout says, and what is kept of earlier words is the same.
pub record Writes {T : Type 0} (history : T → History) (left : T → ℕ) (width : ℕ) (region : Region) (after : List ℕ) (writes : ℕ)
    (old new : MachineWords T) : Type 0 where
  pub changes : Changes width old.layout region after (words_of history old) (words_of history new)
  pub layout : new.layout ≡ old.layout
  pub laid : AreLaid history width new
  pub rest : without_words (history new.store.timeline) ≡ without_words (history old.store.timeline)
  pub few : left_of history left old ≤ left_of history left new + writes
