use Rattle.std.proofs.Common.{arith, ◌∙◌}
use Rattle.frame_steps.proofs.LeftRounds.{one_bound, three_bounds, two_bounds}
use Rattle.frame_steps.proofs.rounds_left.bounds_of.Goals as goal

pub returns-then-dimensions-eq1 : goal.returns-then-dimensions-eq1
returns-then-dimensions-eq1 c ds long = one_bound c.args.words.now ds (long ∙ c.if-dimensions-eq1.true) _ c.range-first.ensures

pub returns-then-dimensions-eq2 : goal.returns-then-dimensions-eq2
returns-then-dimensions-eq2 c ds long = two_bounds c.args.words.now ds (long ∙ c.if-dimensions-eq2.true) _ _ c.range-first.ensures c.range-second.ensures

pub returns : goal.returns
returns c ds long =
    three_bounds c.args.words.now ds
    (let all = c.requires in omega (arith, long, all.0, all.1, c.if-dimensions-eq1.false, c.if-dimensions-eq2.false)) _ _ _
    c.range-first.ensures c.range-second.ensures c.range.ensures
