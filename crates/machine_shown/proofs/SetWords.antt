-- Words of a variable that are set, whichever they are, keep what is declared.
use Rattle.std.proofs.Common.{ℕ, List, [], ◌∷◌}
use Rattle.gang_types.specs.declared.places.VarId.{VarId}
use Rattle.gang_types.specs.declared.places.VarId.TheVariants.{File, Local}
use Rattle.gang_model.specs.Types.Tree.{Program}
use Rattle.gang_model.specs.Running.State.{Store, Frame, with_words, with_var, with_words_in}
use Rattle.mask_states.specs.Masked.{Level}
use Rattle.machine_states.specs.Variables.{Variables}
use Rattle.machine_states.specs.Declared.{IsAwaited, FrameDeclared, FramesDeclared, declared_before}
use Rattle.machine_states.proofs.AwaitedLevels.{levels_kept}
use Rattle.machine_states.proofs.StoreEntries.{with_words_keeps, has_all_kept}

module _ (variables : Variables) (p : Program) where
  frame_kept : (frame : Frame) (v : VarId) (words : List ℕ) (levels : List Level) → FrameDeclared variables p frame levels → FrameDeclared variables p (with_var v words frame) levels
  frame_kept frame v words levels h f is =
      let more : Store = with_words frame.vars v words in
      levels_kept (IsAwaited variables frame.function f frame.vars) (IsAwaited variables frame.function f more) f
      (λ depth number awaited. record {
        has_all = has_all_kept (declared_before variables frame.function f number) frame.vars more (with_words_keeps frame.vars v words) awaited.has_all;
        nested = awaited.nested;
      }) levels (h f is)

  pub words_declared : (memory : Store) (frames : List Frame) (levels : List (List Level)) (v : VarId) (words : List ℕ) → FramesDeclared variables p frames levels
      → FramesDeclared variables p (with_words_in (record { memory = memory; frames = frames }) v words).frames levels
  words_declared memory frames levels (File n) words h = h
  words_declared memory [] levels (Local n) words h = tt
  words_declared memory (frame ∷ frames) [] (Local n) words h = tt
  words_declared memory (frame ∷ frames) (levels ∷ rest) (Local n) words h = (frame_kept frame (Local n) words levels h.0, h.1)
