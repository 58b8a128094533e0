use Rattle.std.proofs.Common.{◌≡◌, List, length, take}
use Rattle.gang_types.specs.Masks.{lanes_of}
use Rattle.gang_model.specs.Types.Tree.{Arg}
use Rattle.mask_states.specs.Masked.{Masked}
use Rattle.codegen.specs.Codes.{Fit}
use Rattle.machine_words.specs.Words.{regions_in}
use Rattle.frame_steps.specs.Standing.{IsShown}
use Rattle.machine_steps.specs.Calls.{AreArgumentWords, IsArgumentAt}
use Rattle.machine_steps.proofs.calls.arguments.Given as goal

-- the arguments so far have their words
abbrev pub invariant-loop-arg : goal.invariant-loop-arg
invariant-loop-arg g l =
    (length l.given.items ≡ l.arg-index)
    × ((masked : Masked) (meant : List Arg) → IsShown g.T.Timeline.history g.row.W l.compiled l.words masked
    → Fit (IsArgumentAt g.row.W l.compiled (regions_in g.T.Timeline.history g.row.W l.words) l.active) l.args meant
    → Fit (AreArgumentWords g.row.W (regions_in g.T.Timeline.history g.row.W l.words) (lanes_of g.row.W l.active.lanes) masked.state) (take l.arg-index meant) l.given.items)
