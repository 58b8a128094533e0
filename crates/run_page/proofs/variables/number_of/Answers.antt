use Rattle.std.proofs.Common.{arith, ap, Some, ◌∙◌}
use Rattle.run_page.proofs.Numbers.{distinct_one, grows_one}
use Rattle.run_page.proofs.variables.number_of.Goals as goal

pub returns-clause-grows : goal.returns-clause-grows
returns-clause-grows c = grows_one c.args.variables.now.items c.push.new.self.items _ c.in_ok-push.ensures.items

pub returns-clause-distinct : goal.returns-clause-distinct
returns-clause-distinct c distinct =
    distinct_one c.args.variables.now.items c.push.new.self.items _ c.in_ok-push.ensures.items
    (λ k within is. c.loop-number.invariant k (omega (arith, c.loop-number-test.false, within))
    (is ∙ ap (λ name. Some (record { depth = c.args.depth; name = name; shown = c.args.named.shown })) c.in_ok-from_slice.ensures.items)) distinct
