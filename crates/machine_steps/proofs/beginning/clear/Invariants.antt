use Rattle.machine_steps.proofs.FilledVariables.{AreCleared}
use Rattle.machine_steps.proofs.beginning.clear.Given as goal

-- the elements so far are 0
abbrev pub invariant-loop-index : goal.invariant-loop-index
invariant-loop-index g l = AreCleared g.T.Timeline.history g.row.W l.number l.count l.index l.fn.words l.words
