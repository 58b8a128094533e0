use Rattle.std.proofs.Common.{◌≡◌, Some}
use Rattle.gang_model.specs.Types.Tree.{Function}
use Rattle.machine_words.specs.Words.{regions_in}
use Rattle.frame_steps.specs.Compiled.{function_of}
use Rattle.frame_steps.proofs.FrameLevels.{IsDownTo}
use Rattle.frame_steps.proofs.levels.innermost.Given as goal

abbrev pub decreases-loop-level : goal.decreases-loop-level
decreases-loop-level g l = l.level

abbrev pub invariant-loop-level : goal.invariant-loop-level
invariant-loop-level g l =
    (f : Function) → function_of l.compiled l.function ≡ Some f → IsDownTo g.row.W (regions_in g.T.Timeline.history g.row.W l.words) l.frame f l.level
