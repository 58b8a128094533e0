-- How a step ends.
use Rattle.std.proofs.Common.{ℕ}
use Rattle.std.specs.Prelude.{Ok}
use Rattle.undo_log.specs.History.{History}
use Rattle.undo_log.specs.declared.timeline.Undone.TheVariants as undone
use Rattle.debug_traits.specs.declared.machine.StepEnd.TheVariants as end
use Rattle.mask_states.specs.Masked.{Masked}
use Rattle.machine_words.specs.declared.words.MachineWords.{MachineWords}
use Rattle.frame_steps.specs.declared.compiled.CompiledProgram.{CompiledProgram}
use Rattle.frame_steps.specs.Standing.{AreSound, Ends, IsShown, Steps}
use Rattle.frame_steps.proofs.CalledFrames.{called_behind}
use Rattle.frame_steps.proofs.Standings.{lie_behind, shown_behind}

module _ {T : Type 0} (history : T → History) (width : ℕ) (compiled : CompiledProgram) (old new : MachineWords T) (sound : AreSound history width compiled old)
    (ends : Ends history width compiled old (Ok tt) new) where
  -- the step is done
  pub step_done : (masked : Masked) → IsShown history width compiled old masked → Steps history width compiled masked old end.Done new
  step_done masked shown =
      let ended = ends masked shown in
      let after = shown_behind history width compiled undone.Step old new sound.lie ended.1 masked shown ended.0 in
      (after.0, after.1, after.2, ended.1)

  -- and the words show the masked state after it
  pub sound_behind : AreSound history width compiled new
  sound_behind =
      let ended = ends sound.masked sound.shown in
      let after = shown_behind history width compiled undone.Step old new sound.lie ended.1 sound.masked sound.shown ended.0 in
      record { lie = lie_behind history width compiled undone.Step old new sound.lie ended.1; masked = after.0; shown = after.2; called = called_behind history width compiled old sound after.0 after.1 }
