use Rattle.run_page.proofs.CallsKept.{common_more}
use Rattle.run_page.proofs.calls.common_front.Goals as goal

pub loop-index-preserved : goal.loop-index-preserved
loop-index-preserved c =
    let more = common_more c.args.left.now c.args.right.now c.loop-index.index _ c.loop-index-test.true (c.has_call.ensures c.if-not-has_call.false) c.loop-index.invariant.same in
    record { same = more.0; inside = more.1 }
