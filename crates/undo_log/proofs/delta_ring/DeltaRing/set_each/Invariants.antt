-- the words before this one are set
use Rattle.std.proofs.Common.{◌≡◌, ◌+◌, ◌≤◌, take}
use Rattle.undo_log.specs.History.{with_run}
use Rattle.undo_log.specs.Deltas.{left_of}
use Rattle.undo_log.proofs.delta_ring.DeltaRing.set_each.Given as goal

abbrev pub invariant-loop-index : goal.invariant-loop-index
invariant-loop-index l = record {
  history : l.self.history ≡ with_run l.fn.first (take l.index l.fn.values) l.fn.self.history;
  left : left_of l.fn.self.history.room l.fn.self.counts ≤ left_of l.self.history.room l.self.counts + l.index;
}
