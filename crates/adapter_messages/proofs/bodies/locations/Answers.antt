use Rattle.adapter_messages.specs.Replies.{location}
use Rattle.adapter_messages.proofs.Lists.{shown_at}
use Rattle.adapter_messages.proofs.bodies.locations.Goals as goal

pub loop-line-preserved : goal.loop-line-preserved
loop-line-preserved c =
    shown_at location c.args.lines.now c.loop-line.line-index _ c.loop-line.list.items c.push.new.list.items c.in_ok-shown.shown
    c.loop-line-test.true c.loop-line.invariant c.in_ok-shown.ensures c.in_ok-push.ensures.ok
