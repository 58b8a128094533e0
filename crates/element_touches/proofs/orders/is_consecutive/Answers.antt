use Rattle.std.proofs.Common.{sym, ◌∙◌, ◌≤◌, ◌-◌, ◌+◌, length, arith}
use Rattle.element_touches.proofs.Onward.{consecutive_all}
use Rattle.element_touches.proofs.orders.is_consecutive.Goals as goal

pub returns : goal.returns
returns c =
    let few : length c.args.elements.now ≤ c.loop-place.place - 1 + 1 = omega (arith, c.loop-place-test.false, c.loop-place.invariant.from) in
    sym (consecutive_all c.args.elements.now (c.loop-place.place - 1) few) ∙ c.loop-place.invariant.rest
