use Rattle.std.proofs.Common.{◌∙◌, ap, sym}
use Rattle.gang_types.specs.Lanes.{lowest, no_lane}
use Rattle.gang_types.specs.Masks.{lanes_of}
use Rattle.frame_steps.proofs.CheckSteps.{all_hold, lowest_fails}
use Rattle.frame_steps.proofs.checks.hold_in_each.Goals as goal

pub returns-then-is_empty : goal.returns-then-is_empty
returns-then-is_empty g c =
    all_hold (lanes_of g.row.W c.args.lanes) c.args.values (ap no_lane (sym c.where_false-failing.ensures) ∙ sym c.is_empty.ensures ∙ c.if-is_empty.true)

pub returns : goal.returns
returns g c =
    lowest_fails (lanes_of g.row.W c.args.lanes) c.args.values c.lowest.result (c.lowest.ensures.value ∙ ap lowest c.where_false-failing.ensures)
    (ap no_lane (sym c.where_false-failing.ensures) ∙ sym c.is_empty.ensures ∙ c.if-is_empty.false)
