use Rattle.adapter_messages.specs.Replies.{completion}
use Rattle.adapter_messages.proofs.Lists.{shown_next}
use Rattle.adapter_messages.proofs.bodies.completions.Goals as goal

pub loop-name-preserved : goal.loop-name-preserved
loop-name-preserved c =
    shown_next completion c.args.made.now c.loop-name.name-index c.name-item.result c.loop-name.list.items c.push.new.list.items c.in_ok-shown.shown
    c.loop-name-test.true c.name-item.is c.loop-name.invariant c.in_ok-shown.ensures c.in_ok-push.ensures.ok
