use Rattle.std.proofs.Common.{◌+◌, ◌∙◌, ap, refl}
use Rattle.undo_log.specs.History.{with_word}
use Rattle.undo_log.proofs.Runs.{no_run, run_more}
use Rattle.undo_log.proofs.snapshot_ring.SnapshotRingTimeline.set_run.Goals as goal

pub loop-index-init : goal.loop-index-init
loop-index-init c = no_run c.args.first c.args.self.now c.args.values.now

pub loop-index-preserved : goal.loop-index-preserved
loop-index-preserved c =
    let l = c.loop-index in
    c.set.ensures.history
    ∙ (ap (with_word (c.args.first + l.index) _) l.invariant ∙ run_more c.args.first l.index _ c.args.values.now c.args.self.now c.loop-index-test.true c.requires.in_range refl)
