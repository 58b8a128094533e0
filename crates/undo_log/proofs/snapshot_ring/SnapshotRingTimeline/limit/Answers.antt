use Rattle.std.proofs.Common.{arith}
use Rattle.undo_log.proofs.Snapshots.{length_seen}
use Rattle.undo_log.proofs.snapshot_ring.SnapshotRingTimeline.limit.Goals as goal

pub returns-clause-kept : goal.returns-clause-kept
returns-clause-kept c =
    let a = c.self.inside in
    rw (← c.self.view_is, length_seen a.events.items a.lists.items (omega arith)) c.self.invariant.events.1
