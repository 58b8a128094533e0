use Rattle.std.proofs.Common.{◌≡◌, take, length}
use Rattle.undo_log.specs.History.{limited}
use Rattle.undo_log.proofs.delta_ring.DeltaRing.shrink.Given as goal

abbrev pub invariant-loop-self : goal.invariant-loop-self
invariant-loop-self l = record {
  history : limited l.smaller l.self.history ≡ limited l.smaller l.fn.self.history;
  counts : take l.smaller l.self.counts ≡ take l.smaller l.fn.self.counts;
  limit : l.self.history.limit ≡ l.fn.self.history.limit;
}

abbrev pub decreases-loop-self : goal.decreases-loop-self
decreases-loop-self l = length l.self.history.past
