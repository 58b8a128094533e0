use Rattle.adapter_session.specs.Judged.{of_line}
use Rattle.adapter_session.proofs.JudgedEntries.{judged_more}
use Rattle.adapter_session.proofs.judging.judged_lines.Goals as goal

pub loop-line-preserved : goal.loop-line-preserved
loop-line-preserved c =
    judged_more of_line c.args.lines.now c.loop-line.line-index _ _ c.loop-line.judged.items _ c.loop-line-test.true c.loop-line.invariant c.in_ok-judged_line.ensures c.in_ok-push.ensures.items
