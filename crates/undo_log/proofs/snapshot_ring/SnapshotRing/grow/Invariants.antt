use Rattle.std.proofs.Common.{◌≡◌, ◌≤◌, ◌-◌, length}
use Rattle.undo_log.specs.Snapshots.{AreSnapshots, snapshots_seen}
use Rattle.undo_log.proofs.snapshot_ring.SnapshotRing.grow.Given as goal

abbrev pub invariant-loop-self : goal.invariant-loop-self
invariant-loop-self l = record {
  good : AreSnapshots l.self-inside;
  same : snapshots_seen l.self-inside ≡ l.fn.self;
  lists : l.larger ≤ l.self-inside.lists.capacity;
  events : l.larger ≤ l.self-inside.events.capacity;
}

abbrev pub decreases-loop-self : goal.decreases-loop-self
decreases-loop-self l = l.larger - length l.self-inside.lists.items
