use Rattle.adapter_messages.specs.Replies.{breakpoint}
use Rattle.adapter_messages.proofs.Lists.{shown_at}
use Rattle.adapter_messages.proofs.bodies.breakpoints.Goals as goal

pub loop-breakpoint-preserved : goal.loop-breakpoint-preserved
loop-breakpoint-preserved c =
    shown_at breakpoint c.args.made.now c.loop-breakpoint.breakpoint-index _ c.loop-breakpoint.list.items c.push.new.list.items c.in_ok-shown.shown
    c.loop-breakpoint-test.true c.loop-breakpoint.invariant c.in_ok-shown.ensures c.in_ok-push.ensures.ok
