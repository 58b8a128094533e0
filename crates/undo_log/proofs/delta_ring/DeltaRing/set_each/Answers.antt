use Rattle.std.proofs.Common.{◌+◌, ◌∙◌, ap, refl, arith}
use Rattle.undo_log.specs.History.{with_word}
use Rattle.undo_log.proofs.Runs.{no_run, run_more}
use Rattle.undo_log.proofs.delta_ring.DeltaRing.set_each.Goals as goal

pub loop-index-init : goal.loop-index-init
loop-index-init c = record { history = no_run c.args.first c.args.self.now.history c.args.values.now; left = omega arith }

pub loop-index-preserved : goal.loop-index-preserved
loop-index-preserved c =
    let l = c.loop-index in
    record {
      history = c.set.ensures.history
          ∙ (ap (with_word (c.args.first + l.index) _) l.invariant.history ∙ run_more c.args.first l.index _ c.args.values.now c.args.self.now.history c.loop-index-test.true c.requires.in_range refl);
      left = omega (arith, l.invariant.left, c.set.ensures.left);
    }
