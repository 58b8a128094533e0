-- The step at which the frame at a depth stands, as the code finds it.
use Rattle.std.proofs.Common.{◌≡◌, refl, sym, ap, ◌∙◌, ℕ, suc, ◌-◌, ◌<◌, ◌≤◌, [], ◌∷◌, length, min, Some, arith}
use Rattle.std.specs.Prelude.{slice_index}
use Rattle.undo_log.specs.History.{History}
use Rattle.mask_states.specs.Masked.{Masked}
use Rattle.machine_states.specs.Regions.{Depth, FunctionOf, OfHead}
use Rattle.machine_words.specs.declared.words.MachineWords.{MachineWords}
use Rattle.machine_words.specs.Words.{regions_in}
use Rattle.frame_steps.specs.declared.compiled.CompiledProgram.{CompiledProgram}
use Rattle.frame_steps.specs.declared.levels.FrameStep.{FrameStep}
use Rattle.frame_steps.specs.Compiled.{function_of, program_of, variables_of}
use Rattle.frame_steps.specs.Rounds.{IsFrameStep, IsRunning}
use Rattle.frame_steps.specs.Standing.{AreSound, IsNextOf, IsShown}
use Rattle.frame_steps.proofs.Standings.{head_sized}
use Rattle.gang_model.specs.Types.Tree.{Function}
use Rattle.machine_shown.specs.Frames.{IsPlaceOf, regions_up_to}
use Rattle.machine_shown.proofs.CallPlaces.{function_at, running_at}
use Rattle.machine_shown.proofs.FramePlaces.{is_place}

module _ {T : Type 0} (history : T → History) (width : ℕ) (compiled : CompiledProgram) (words : MachineWords T) (sound : AreSound history width compiled words) (deep frames least : ℕ)
    (read : frames ≡ slice_index (regions_in history width words Depth) 0) (least_is : least ≡ min deep frames) where
  -- at depth 0, or once the program has ended
  pub none_up_to : (1 ≤ least → ⊥) → regions_up_to deep (regions_in history width words) Depth ≡ 0 ∷ []
  none_up_to none =
      let zero : min deep frames ≡ 0 = omega (arith, none, least_is) in
      ap (λ n. min deep n ∷ []) (sym read) ∙ ap (λ n. n ∷ []) zero

  module _ (frame : ℕ) (some : 1 ≤ least) (is : frame ≡ least - 1) where
    there : frame < length sound.masked.state.frames
    there = let all = read ∙ ap (λ ws. slice_index ws 0) sound.shown.shows.depth in omega (arith, all, some, is, least_is)

    height : min deep frames ≡ suc frame
    height = omega (arith, some, is, least_is)

    pub function_long : length (regions_in history width words (OfHead frame FunctionOf)) ≡ 1
    function_long = head_sized history width compiled words words sound.lie refl sound.lie.laid frame FunctionOf (omega (arith, there, sound.shown.shows.few))

    module _ (n : ℕ) (word : n ≡ slice_index (regions_in history width words (OfHead frame FunctionOf)) 0) where
      pub runs : IsRunning (regions_in history width words) frame n
      runs = running_at (program_of compiled) (variables_of compiled) width (regions_in history width words) sound.masked sound.shown.shows frame n there word

      -- its step is the one that comes next, of the frames up to it
      pub is_next : (found : FrameStep) → ((f : Function) → function_of compiled n ≡ Some f → IsFrameStep width (regions_in history width words) frame f found)
          → IsNextOf width compiled (regions_up_to deep (regions_in history width words)) (Some (record { frame = frame; level = found.level; function = n; step = found.step; lanes = found.lanes }))
      is_next found of =
          let function = function_at (program_of compiled) (variables_of compiled) width (regions_in history width words) sound.masked sound.shown.shows frame n there word in
          let step = of function.0 function.1 in (
            function.0,
            record {
              next = record {
                depth = ap (λ m. min deep m ∷ []) (sym read) ∙ ap (λ m. m ∷ []) height;
                function = function.2;
                is_function = function.1;
                innermost = step.innermost;
                least_number = step.least_number;
                is_point = refl;
              };
              lanes = step.lanes;
            },
          )

      -- where the frame stands
      pub stands : (found : FrameStep) → ((f : Function) → function_of compiled n ≡ Some f → IsFrameStep width (regions_in history width words) frame f found)
          → (masked : Masked) → IsShown history width compiled words masked
          → IsPlaceOf deep masked (Some (record { frame = frame; level = found.level; function = n; step = found.step; lanes = found.lanes }))
      stands found of masked shown =
          is_place compiled width (regions_in history width words) masked shown.shows deep
          (Some (record { frame = frame; level = found.level; function = n; step = found.step; lanes = found.lanes })) (is_next found of)
