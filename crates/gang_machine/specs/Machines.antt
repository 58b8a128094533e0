-- What is true of each machine.
use Rattle.std.specs.Prelude.{ℕ, ◌≤◌, All}
use Rattle.undo_log.specs.History.{History, Moment}
use Rattle.mask_states.specs.Masked.{Masked}
use Rattle.gang_memory.specs.declared.layout.Layout.{Layout}
use Rattle.machine_words.specs.declared.words.MachineWords.{MachineWords}
use Rattle.machine_words.specs.Ranges.{IsLaid}
use Rattle.frame_steps.specs.declared.compiled.CompiledProgram.{CompiledProgram}
use Rattle.frame_steps.specs.Standing.{AreFor, HaveLanes, IsShown}
use Rattle.gang_machine.specs.Standings.{ShowsWords}

-- words before an event lie as the layout says, and show some masked state, of which each frame has a lane
pub record IsSoundMoment (width : ℕ) (compiled : CompiledProgram) (layout : Layout) (moment : Moment) : Type 0 where
  pub laid : IsLaid width layout moment.before
  pub masked : Masked
  pub shown : ShowsWords width compiled.program layout moment.before masked
  pub called : HaveLanes masked.state.frames

-- its words, now and before each event that is kept, lie as the layout of its program says, and show some masked state
pub record IsMachine {T : Type 0} (history : T → History) (width : ℕ) (compiled : CompiledProgram) (words : MachineWords T) : Type 0 where
  pub lie : AreFor history width compiled words
  pub masked : Masked
  pub shown : IsShown history width compiled words masked
  pub called : HaveLanes masked.state.frames
  pub past : All (IsSoundMoment width compiled words.layout) (history words.store.timeline).past
  pub limit : 1 ≤ (history words.store.timeline).limit
