-- The top frame, by the number of frames.
use Rattle.std.proofs.Common.{ℕ, suc, ◌-◌, ◌<◌, ◌≤◌, ◌≡◌, refl, sym, ◌∙◌, ap, arith, ◌∷◌, [], length, slice_index, Some}
use Rattle.std.specs.Prelude.{slice_get}
use Rattle.gang_model.specs.Types.Tree.{Function}
use Rattle.undo_log.specs.History.{History}
use Rattle.machine_states.specs.Regions.{FunctionOf, Depth, OfHead}
use Rattle.machine_words.specs.declared.words.MachineWords.{MachineWords}
use Rattle.machine_words.specs.Words.{regions_in}
use Rattle.frame_steps.specs.declared.compiled.CompiledProgram.{CompiledProgram}
use Rattle.frame_steps.specs.Compiled.{function_of, program_of, variables_of}
use Rattle.frame_steps.specs.Standing.{AreSound}
use Rattle.frame_steps.specs.Rounds.{IsRunning}
use Rattle.frame_steps.proofs.ShownFrames.{IsShownFrame, frame_shown}
use Rattle.frame_steps.proofs.Standings.{head_sized}

module _ {T : Type 0} (history : T → History) (width : ℕ) (compiled : CompiledProgram) (words : MachineWords T) (sound : AreSound history width compiled words) (depth frame : ℕ)
    (read : depth ≡ slice_index (regions_in history width words Depth) 0) (some : 1 ≤ depth) (is : frame ≡ depth - 1) where
  height : suc frame ≡ length sound.masked.state.frames
  height = let all = read ∙ ap (λ ws. slice_index ws 0) sound.shown.shows.depth in omega (arith, all, some, is)

  below : frame < 64
  below = omega (arith, height, sound.shown.shows.few)

  pub top_depth : regions_in history width words Depth ≡ suc frame ∷ []
  top_depth = sound.shown.shows.depth ∙ ap (λ n. n ∷ []) (sym height)

  top_shown : IsShownFrame (program_of compiled) (variables_of compiled) width (regions_in history width words) frame
  top_shown =
      frame_shown (program_of compiled) (variables_of compiled) width (regions_in history width words) frame sound.masked.state.frames sound.masked.levels (omega (arith, height)) sound.shown.shows.frames

  pub function_word : length (regions_in history width words (OfHead frame FunctionOf)) ≡ 1
  function_word = head_sized history width compiled words words sound.lie refl sound.lie.laid frame FunctionOf below

  -- the function that the first word of its head names
  pub top_runs : (n : ℕ) → n ≡ slice_index (regions_in history width words (OfHead frame FunctionOf)) 0
      → (f : Function) × (regions_in history width words (OfHead frame FunctionOf) ≡ n ∷ []) × (function_of compiled n ≡ Some f)
  top_runs n is_word =
      let number : n ≡ top_shown.frame.function = is_word ∙ ap (λ ws. slice_index ws 0) top_shown.shows.number in (
        top_shown.shows.function,
        top_shown.shows.number ∙ ap (λ m. m ∷ []) (sym number),
        ap (λ m. slice_get (program_of compiled).functions m) number ∙ top_shown.shows.is_function,
      )

  pub top_running : (n : ℕ) → n ≡ slice_index (regions_in history width words (OfHead frame FunctionOf)) 0 → IsRunning (regions_in history width words) frame n
  top_running n is_word = record { height = suc frame; depth = top_depth; below = omega arith; runs = (top_runs n is_word).1 }
