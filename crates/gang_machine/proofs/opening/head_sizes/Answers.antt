use Rattle.gang_machine.proofs.HeadSizes.{four_pushed}
use Rattle.gang_machine.proofs.opening.head_sizes.Goals as goal

pub loop-preserved : goal.loop-preserved
loop-preserved g c =
    four_pushed g.row.W c.loop.counter c.loop.sizes.items _ _ _ _ c.loop.invariant c.in_ok-push.ensures.items c.in_ok-push-2.ensures.items c.in_ok-push-3.ensures.items c.in_ok-push-4.ensures.items
