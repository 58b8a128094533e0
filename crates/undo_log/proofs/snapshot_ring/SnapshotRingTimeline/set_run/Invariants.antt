-- the words before this one are set
use Rattle.std.proofs.Common.{◌≡◌, take}
use Rattle.undo_log.specs.History.{with_run}
use Rattle.undo_log.proofs.snapshot_ring.SnapshotRingTimeline.set_run.Given as goal

abbrev pub invariant-loop-index : goal.invariant-loop-index
invariant-loop-index l = l.self ≡ with_run l.fn.first (take l.index l.fn.values) l.fn.self
