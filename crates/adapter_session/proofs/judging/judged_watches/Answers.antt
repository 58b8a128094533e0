use Rattle.adapter_session.specs.Judged.{of_watch}
use Rattle.adapter_session.proofs.JudgedEntries.{judged_more}
use Rattle.adapter_session.proofs.judging.judged_watches.Goals as goal

pub loop-target-preserved : goal.loop-target-preserved
loop-target-preserved c =
    judged_more of_watch c.args.targets.now c.loop-target.target-index _ _ c.loop-target.judged.items _ c.loop-target-test.true c.loop-target.invariant c.in_ok-judged_watch.ensures c.in_ok-push.ensures.items
