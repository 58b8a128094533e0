use Rattle.std.proofs.Common.{◌<◌, ◌+◌, length, drop, sym, ap, ◌∙◌, rules}
use Rattle.std.proofs.lemmas.List.{at_drop_all, at_drop_more}
use Rattle.prompt_lines.specs.Words.{held_text}
use Rattle.prompt_stops.specs.Listed.{with_each}
use Rattle.prompt_stops.proofs.lists.add_to_each.Goals as goal

pub loop-number-preserved : goal.loop-number-preserved
loop-number-preserved g c =
    let numbers = c.args.numbers.now in
    let k = c.loop-number.number-index in
    let text = held_text c.args.line.now in
    let now = c.loop-number.lines.items in
    let inside : k < length numbers = search rules in
    ap (with_each (drop (k + 1) numbers) text) c.add_one.ensures
    ∙ sym (at_drop_more (λ rest. with_each rest text now) numbers k 0 inside) ∙ c.loop-number.invariant

pub returns : goal.returns
returns g c =
    sym (at_drop_all (λ rest. with_each rest (held_text c.args.line.now) c.loop-number.lines.items) c.args.numbers.now c.loop-number.number-index c.loop-number-test.false)
    ∙ c.loop-number.invariant
