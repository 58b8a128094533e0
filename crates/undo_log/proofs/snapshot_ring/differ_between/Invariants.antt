-- no word before this one differs
use Rattle.undo_log.specs.History.{SameBetween}
use Rattle.undo_log.proofs.snapshot_ring.differ_between.Given as goal

abbrev pub invariant-loop-index : goal.invariant-loop-index
invariant-loop-index l = SameBetween l.fn.first l.index l.fn.before l.fn.words
