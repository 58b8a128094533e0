-- What writes leave of the words of a machine, and what is asked where lanes are sent on.
use Rattle.std.specs.Prelude.{◌≡◌, ℕ, ◌+◌, ◌≤◌, false, length}
use Rattle.gang_types.specs.declared.masks.Mask.{Mask}
use Rattle.gang_types.specs.Lanes.{no_lane}
use Rattle.gang_types.specs.Masks.{IsGangWidth, lanes_of}
use Rattle.undo_log.specs.History.{History}
use Rattle.gang_memory.specs.Recorded.{without_words}
use Rattle.machine_states.specs.Regions.{NumbersOf, OfLevel, Region, Regions}
use Rattle.machine_words.specs.declared.words.MachineWords.{MachineWords}
use Rattle.machine_words.specs.Words.{AreLaid, left_of, regions_in}

-- The regions are these now, and at most so many words were set. The words still lie as the layout says, and what is kept of earlier words
-- is the same.
pub record Sets {T : Type 0} (history : T → History) (left : T → ℕ) (width : ℕ) (regions : Regions) (writes : ℕ) (old new : MachineWords T) : Type 0 where
  pub regions_are : (r : Region) → regions_in history width new r ≡ regions r
  pub layout : new.layout ≡ old.layout
  pub laid : AreLaid history width new
  pub rest : without_words (history new.store.timeline) ≡ without_words (history old.store.timeline)
  pub few : left_of history left old ≤ left_of history left new + writes

-- lanes of a level of a frame may be sent on: there is one, the level has a number for each lane, and so many words may be set
pub record MaySend {T : Type 0} (history : T → History) (left : T → ℕ) (width frame level : ℕ) (mask : Mask) (words : MachineWords T) : Type 0 where
  pub gang : IsGangWidth width
  pub laid : AreLaid history width words
  pub numbered : length (regions_in history width words (OfLevel frame level NumbersOf)) ≡ width
  pub some : no_lane (lanes_of width mask) ≡ false
  pub room : width ≤ left_of history left words
