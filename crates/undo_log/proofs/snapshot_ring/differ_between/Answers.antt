use Rattle.std.proofs.Common.{subst, ◌≤◌}
use Rattle.undo_log.proofs.Snapshots.{same_on}
use Rattle.undo_log.proofs.snapshot_ring.differ_between.Goals as goal

pub returns : goal.returns
returns c none =
    same_on c.args.first c.args.end c.loop-index.index c.args.before.now c.args.words.now c.requires
    (subst (λ n. n ≤ c.loop-index.index) c.min-index-end.ensures c.loop-index-test.false) c.loop-index.invariant
