use Rattle.adapter_session.specs.Judged.{of_function}
use Rattle.adapter_session.proofs.JudgedEntries.{judged_more}
use Rattle.adapter_session.proofs.judging.judged_functions.Goals as goal

pub loop-function-preserved : goal.loop-function-preserved
loop-function-preserved c =
    judged_more of_function c.args.functions.now c.loop-function.function-index _ _ c.loop-function.judged.items _ c.loop-function-test.true c.loop-function.invariant c.in_ok-judged_function.ensures c.in_ok-push.ensures.items
