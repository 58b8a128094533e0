use Rattle.adapter_messages.specs.Replies.{thread}
use Rattle.adapter_messages.proofs.Lists.{shown_next}
use Rattle.adapter_messages.proofs.bodies.threads.Goals as goal

pub loop-thread-preserved : goal.loop-thread-preserved
loop-thread-preserved c =
    shown_next thread c.args.made.now c.loop-thread.thread-index c.thread-item.result c.loop-thread.list.items c.push.new.list.items c.in_ok-shown.shown
    c.loop-thread-test.true c.thread-item.is c.loop-thread.invariant c.in_ok-shown.ensures c.in_ok-push.ensures.ok
