-- Each frame that a masked state has is shown in the regions of its number.
use Rattle.std.proofs.Common.{ℕ, ◌<◌, subst, arith, inl, inr, List, [], ◌∷◌, length}
use Rattle.std.proofs.lemmas.Bool.{cases_lt}
use Rattle.gang_model.specs.Types.Tree.{Program}
use Rattle.gang_model.specs.Running.State.{Frame}
use Rattle.mask_states.specs.Masked.{Level}
use Rattle.machine_states.specs.Regions.{Regions}
use Rattle.machine_states.specs.Shows.{ShowsFrame, ShowsFrames}
use Rattle.machine_states.specs.Variables.{Variables}

-- a frame that the regions show
pub record IsShownFrame (p : Program) (variables : Variables) (width : ℕ) (regions : Regions) (i : ℕ) : Type 0 where
  pub frame : Frame
  pub levels : List Level
  pub shows : ShowsFrame p variables width regions i frame levels

pub frame_shown : (p : Program) (variables : Variables) (width : ℕ) (regions : Regions) (i : ℕ) (frames : List Frame) (levels : List (List Level)) → i < length frames
    → ShowsFrames p variables width regions frames levels → IsShownFrame p variables width regions i
frame_shown p variables width regions i [] levels h shown = absurd (omega (arith, h))
frame_shown p variables width regions i (frame ∷ frames) [] h shown = absurd shown
frame_shown p variables width regions i (frame ∷ frames) (ls ∷ levels) h shown =
    elim (cases_lt i (length frames)) [
      | inl below ↦ frame_shown p variables width regions i frames levels below shown.2
      | inr last ↦ subst (IsShownFrame p variables width regions) (omega (arith, last, h)) (record { frame = frame; levels = ls; shows = shown.0 })
    ]
