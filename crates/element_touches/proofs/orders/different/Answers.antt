use Rattle.std.proofs.Common.{arith}
use Rattle.element_touches.proofs.Onward.{different_more}
use Rattle.element_touches.proofs.orders.different.Goals as goal

pub loop-place-preserved : goal.loop-place-preserved
loop-place-preserved c =
    let split = different_more c.args.elements.now c.loop-place.place c.loop-place-test.true in
    record {
      counted = omega (arith, split, c.one_if_last-count.ensures.value, c.loop-place.invariant.counted);
      few = omega (arith, c.one_if_last-count.ensures.few, c.loop-place.invariant.few);
    }
