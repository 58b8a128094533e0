use Rattle.std.proofs.Common.{◌≡◌, length, reverse}
use Rattle.gang_model.specs.Running.State.{State}
use Rattle.expression_runs.specs.Machine.{exec}
use Rattle.expression_runs.specs.Bridge.{masks_view}
use Rattle.expression_runs.proofs.machine.run.Given as goal

abbrev pub invariant-loop-first : goal.invariant-loop-first
invariant-loop-first g l =
    (state : State) → g.S.Words.shows l.words state
    → exec g.row.R g.row.M state l.rest 0 (reverse l.stack.items) (masks_view g.row.W l.masks.items)
    ≡ exec g.row.R g.row.M state l.code 0 (reverse l.fn.stack.items) (masks_view g.row.W l.fn.masks.items)

abbrev pub decreases-loop-first : goal.decreases-loop-first
decreases-loop-first g l = length l.rest
