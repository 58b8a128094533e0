use Rattle.adapter_replies.proofs.ColumnUnits.{all_fit, next_fits, none_fits}
use Rattle.adapter_replies.proofs.columns.end_of.Goals as goal

pub loop-place-preserved : goal.loop-place-preserved
loop-place-preserved c =
    next_fits c.args.units c.loop-place.left c.units_of-needed.result c.loop-place.place c.args.text.now c.loop-place-test.true c.loop-place.invariant c.units_of-needed.ensures.units
    c.if-left-needed.false

pub returns-then-left-needed-clause-front : goal.returns-then-left-needed-clause-front
returns-then-left-needed-clause-front c =
    none_fits c.args.units c.loop-place.left c.units_of-needed.result c.loop-place.place c.args.text.now c.loop-place-test.true c.loop-place.invariant c.units_of-needed.ensures.units
    c.if-left-needed.true

pub returns-clause-front : goal.returns-clause-front
returns-clause-front c = all_fit c.args.units c.loop-place.left c.loop-place.place c.args.text.now c.loop-place-test.false c.loop-place.invariant
