use Rattle.adapter_messages.specs.Replies.{variable}
use Rattle.adapter_messages.proofs.Lists.{shown_next}
use Rattle.adapter_messages.proofs.variables.variables.Goals as goal

pub loop-variable-preserved : goal.loop-variable-preserved
loop-variable-preserved c =
    shown_next variable c.args.found.now c.loop-variable.variable-index c.variable-item.result c.loop-variable.list.items c.push.new.list.items c.in_ok-shown.shown
    c.loop-variable-test.true c.variable-item.is c.loop-variable.invariant c.in_ok-shown.ensures c.in_ok-push.ensures.ok
