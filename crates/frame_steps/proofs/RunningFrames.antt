-- A frame that is there, and the function that it runs.
use Rattle.std.proofs.Common.{ℕ, ◌<◌, ◌≡◌, refl, sym, ◌∙◌, ap, subst, arith, length, Some}
use Rattle.std.specs.Prelude.{slice_get}
use Rattle.gang_model.specs.Types.Tree.{Function, RoundsOf}
use Rattle.undo_log.specs.History.{History}
use Rattle.mask_states.specs.Points.{closing_number, points_in}
use Rattle.machine_states.specs.Levels.{ShowsLevels}
use Rattle.machine_states.specs.Regions.{Depth, FunctionOf, OfHead, OpenOf}
use Rattle.machine_states.specs.Shows.{level_words}
use Rattle.machine_states.specs.Steps.{IsInnermost}
use Rattle.machine_states.proofs.NextPoints.{same_function, same_word}
use Rattle.machine_words.specs.declared.words.MachineWords.{MachineWords}
use Rattle.machine_words.specs.Words.{regions_in}
use Rattle.frame_steps.specs.declared.compiled.CompiledProgram.{CompiledProgram}
use Rattle.frame_steps.specs.Compiled.{function_of, program_of, variables_of}
use Rattle.frame_steps.specs.Rounds.{HasForm, HasLevel, IsRunning}
use Rattle.frame_steps.specs.Standing.{AreSound}
use Rattle.frame_steps.proofs.FrameLevels.{IsDownTo, at_level, level_read}
use Rattle.frame_steps.proofs.ShownFrames.{IsShownFrame, frame_shown}
use Rattle.frame_steps.proofs.Standings.{head_sized}

module _ {T : Type 0} (history : T → History) (width : ℕ) (compiled : CompiledProgram) (words : MachineWords T) (sound : AreSound history width compiled words) (frame n : ℕ)
    (runs : IsRunning (regions_in history width words) frame n) where
  below : frame < length sound.masked.state.frames
  below =
      let height : runs.height ≡ length sound.masked.state.frames =
      same_word (regions_in history width words Depth) runs.height (length sound.masked.state.frames) runs.depth sound.shown.shows.depth in
      omega (arith, height, runs.below)

  pub running_there : frame < 64
  running_there = omega (arith, below, sound.shown.shows.few)

  shown : IsShownFrame (program_of compiled) (variables_of compiled) width (regions_in history width words) frame
  shown = frame_shown (program_of compiled) (variables_of compiled) width (regions_in history width words) frame sound.masked.state.frames sound.masked.levels below sound.shown.shows.frames

  pub running_function : (f : Function) × (function_of compiled n ≡ Some f)
  running_function =
      let same : shown.frame.function ≡ n = same_word (regions_in history width words (OfHead frame FunctionOf)) shown.frame.function n shown.shows.number runs.runs in
      (shown.shows.function, ap (slice_get (program_of compiled).functions) (sym same) ∙ shown.shows.is_function)

  -- how many forms have begun
  pub open_word : length (regions_in history width words (OfHead frame OpenOf)) ≡ 1
  open_word = head_sized history width compiled words words sound.lie refl sound.lie.laid frame OpenOf running_there

  module _ (f : Function) (is : function_of compiled n ≡ Some f) where
    running_levels : ShowsLevels (points_in f) width (level_words (regions_in history width words) frame) (regions_in history width words (OfHead frame OpenOf)) (closing_number f) shown.levels
    unfolding shown running_function
    running_levels =
        let same : shown.shows.function ≡ f = same_function shown.shows.function f (function_of compiled n) running_function.1 is in
        subst (λ g. ShowsLevels (points_in g) width (level_words (regions_in history width words) frame) (regions_in history width words (OfHead frame OpenOf)) (closing_number g) shown.levels) same shown.shows.waits

    -- the words of its innermost level
    pub running_level : (level : ℕ) → IsInnermost width (regions_in history width words) frame f level → HasLevel width (regions_in history width words) frame level
    running_level level inner = level_read history width compiled words sound.lie frame running_there f level shown.levels inner running_levels

    -- the form of a level
    pub running_form : (level : ℕ) → 0 < level → IsDownTo width (regions_in history width words) frame f level
        → (form : RoundsOf) × HasForm width compiled (regions_in history width words) frame level n form
    running_form level some down =
        let found = at_level width (regions_in history width words) frame f level some down running_levels.forms running_levels.are running_levels.counted in
        (found.0, record { f = f; is_function = is; is_form = found.1 })
