use Rattle.std.specs.Prelude.{reverse}
use Rattle.undo_log.proofs.Deltas.{length-moments}
use Rattle.undo_log.proofs.delta_ring.DeltaRingTimeline.limit.Goals as goal

pub returns-clause-kept : goal.returns-clause-kept
returns-clause-kept c =
    let a = c.self.inside in
    rw (← c.self.view_is, length-moments a.marks.items (reverse a.changes.items) a.words.items) c.self.invariant.marks.1
