use Rattle.std.proofs.Common.{◌∙◌, sym, ap}
use Rattle.gang_types.specs.Masks.{lanes_of}
use Rattle.gang_model.specs.Running.Lanes.{at}
use Rattle.foreach_lowering.proofs.NextLanes.{no_value_left, value_next}
use Rattle.foreach_lowering.proofs.lanes.next_value.Goals as goal

pub returns-then-is_empty : goal.returns-then-is_empty
returns-then-is_empty g c = λ v e. no_value_left v e g.row.W (lanes_of g.row.W c.args.lanes) c.args.values (sym c.is_empty.ensures ∙ c.if-is_empty.true)

pub returns : goal.returns
returns g c =
    λ v e. value_next v e g.row.W (lanes_of g.row.W c.args.lanes) (lanes_of g.row.W c.with_value-equal.result) (lanes_of g.row.W c.without.result) c.args.values (at c.args.values c.lowest.result)
    (sym c.is_empty.ensures ∙ c.if-is_empty.false) (ap (at c.args.values) c.lowest.ensures.value) c.with_value-equal.ensures (c.without.ensures g.row.W)
