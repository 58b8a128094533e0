-- A machine without a frame stands for a program that is over.
use Rattle.std.proofs.Common.{◌≡◌, refl, ap, ℕ, List, [], ◌∷◌, length, None, arith}
use Rattle.gang_model.specs.Types.Tree.{Program}
use Rattle.gang_model.specs.Running.State.{Frame}
use Rattle.mask_states.specs.Masked.{Masked, top_spot, masked_spot}
use Rattle.mask_states.specs.MaskedStep.{Over, step_levels, masked_step}
use Rattle.machine_states.specs.Variables.{Variables}
use Rattle.machine_states.specs.Regions.{Depth, Regions}
use Rattle.machine_states.specs.Shows.{Shows}
use Rattle.machine_states.proofs.NextPoints.{same_word}

no_frame : (frames : List Frame) → 0 ≡ length frames → frames ≡ []
no_frame [] e = refl
no_frame (frame ∷ frames) e = absurd (omega (arith, e))

module _ (p : Program) (variables : Variables) (w : ℕ) (regions : Regions) (masked : Masked) (shows : Shows p variables w regions masked) (none : regions Depth ≡ 0 ∷ []) where
  ended : masked.state.frames ≡ []
  ended = no_frame masked.state.frames (same_word (regions Depth) 0 (length masked.state.frames) none shows.depth)

  pub over : masked_step p masked ≡ Over
  over = ap (λ frames. step_levels p masked.state.memory frames masked.levels) ended

  pub over_nowhere : masked_spot masked ≡ None
  over_nowhere = ap (λ frames. top_spot frames masked.levels) ended
