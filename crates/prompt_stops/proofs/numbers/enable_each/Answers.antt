use Rattle.std.proofs.Common.{◌<◌, ◌+◌, length, drop, sym, ap, ◌∙◌, rules}
use Rattle.std.proofs.lemmas.List.{at_drop_all, at_drop_more}
use Rattle.prompt_scenes.specs.Holding.{held}
use Rattle.prompt_stops.specs.Numbers.{enabled_each}
use Rattle.prompt_stops.proofs.numbers.enable_each.Goals as goal

pub loop-number-preserved : goal.loop-number-preserved
loop-number-preserved g c =
    let numbers = c.args.numbers.now in
    let k = c.loop-number.number-index in
    let now = held c.loop-number.holding in
    let inside : k < length numbers = search rules in
    ap (enabled_each (drop (k + 1) numbers)) c.enable.ensures
    ∙ sym (at_drop_more (λ rest. enabled_each rest now) numbers k 0 inside) ∙ c.loop-number.invariant

pub returns : goal.returns
returns g c = sym (at_drop_all (λ rest. enabled_each rest (held c.loop-number.holding)) c.args.numbers.now c.loop-number.number-index c.loop-number-test.false) ∙ c.loop-number.invariant
