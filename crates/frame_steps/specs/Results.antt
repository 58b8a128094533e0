-- What an operation makes of old values, and what the words of a frame become when lanes return.
use Rattle.std.specs.Prelude.{◌≡◌, ℕ, ◌+◌, ◌≤◌, List, Result, Ok}
use Rattle.gang_types.specs.declared.types.Rate.{Rate}
use Rattle.gang_types.specs.declared.masks.Mask.{Mask}
use Rattle.gang_types.specs.Lanes.{Lanes}
use Rattle.gang_types.specs.Masks.{lanes_of}
use Rattle.gang_types.specs.Values.{binary_result, converted}
use Rattle.gang_model.specs.Running.Lanes.{Fault, ◌>>=◌, each, try_each, at}
use Rattle.undo_log.specs.History.{History}
use Rattle.gang_memory.specs.Recorded.{without_words}
use Rattle.machine_states.specs.Effects.{returned_in}
use Rattle.machine_states.specs.Regions.{ReturnedOf, OfHead, Region, lanes_in}
use Rattle.machine_states.specs.Steps.{KeepsBoth}
use Rattle.codegen.specs.declared.code.Change.{Change}
use Rattle.machine_words.specs.declared.words.MachineWords.{MachineWords}
use Rattle.machine_words.specs.Words.{AreLaid, left_of, regions_in}

-- what the operation makes of old values and operands: it is made in its own type, and its value converted back
abbrev pub changed : Change → Lanes → (old operands : List ℕ) → Result (List ℕ) Fault
changed change lanes old operands = do
  x ← try_each lanes (λ k. binary_result change.operator change.value_type (converted change.target_type change.value_type (at old k)) (at operands k))
  Ok (each lanes (λ k. converted change.value_type change.target_type (at x k)))

-- Lanes of a frame have a result, and have returned; nothing else is changed but the words of those two. At most w + 1 words were set.
pub record Returns {T : Type 0} (history : T → History) (left : T → ℕ) (width frame : ℕ) (rate : Rate) (lanes : Mask) (values : List ℕ) (old new : MachineWords T) : Type 0 where
  pub word : ℕ
  pub keeps : KeepsBoth width (lanes_of width lanes) (lanes_in width (regions_in history width old) (OfHead frame ReturnedOf)) word
  pub regions : (r : Region) → regions_in history width new r ≡ returned_in frame rate (lanes_of width lanes) values word (regions_in history width old) r
  pub layout : new.layout ≡ old.layout
  pub laid : AreLaid history width new
  pub rest : without_words (history new.store.timeline) ≡ without_words (history old.store.timeline)
  pub few : left_of history left old ≤ left_of history left new + (width + 1)
