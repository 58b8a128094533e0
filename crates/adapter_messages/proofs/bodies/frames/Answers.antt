use Rattle.adapter_messages.specs.Replies.{frame}
use Rattle.adapter_messages.proofs.Lists.{shown_next}
use Rattle.adapter_messages.proofs.bodies.frames.Goals as goal

pub loop-frame-preserved : goal.loop-frame-preserved
loop-frame-preserved c =
    shown_next (frame c.args.program.now) c.args.made.now c.loop-frame.frame-index c.frame-item.result c.loop-frame.list.items c.push.new.list.items c.in_ok-shown.shown
    c.loop-frame-test.true c.frame-item.is c.loop-frame.invariant c.in_ok-shown.ensures c.in_ok-push.ensures.ok
