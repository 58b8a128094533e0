use Rattle.std.proofs.Common.{◌≡◌, ℕ, ◌<◌, List, length, slice_index}
use Rattle.gang_model.specs.Types.Tree.{Stmt, StepNumber}
use Rattle.mask_states.specs.MaskedStep.{chosen, segment_of}
use Rattle.codegen.specs.Codes.{AreSegments}
use Rattle.frame_steps.proofs.choosing.entries.Given as goal

abbrev pub invariant-loop-lane : goal.invariant-loop-lane
invariant-loop-lane g l = (length l.targets ≡ g.row.W) × ((labelled : Stmt) (entries : List StepNumber) → AreSegments l.segments labelled entries
    → (k : ℕ) → k < l.lane → slice_index l.targets k ≡ chosen entries l.next (segment_of labelled (slice_index l.values k)))
