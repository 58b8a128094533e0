use Rattle.std.proofs.Common.{◌∙◌, sym, ap}
use Rattle.gang_types.specs.Masks.{lanes_of}
use Rattle.lane_counts.specs.Counted.{noted}
use Rattle.lane_counts.specs.Pending.{width_of}
use Rattle.lane_counts.specs.Steps.{active}
use Rattle.prompt_walks.proofs.LanesSoFar.{none_noted, step_noted}
use Rattle.prompt_walks.proofs.lanes_told.and_step_if.Goals as goal

pub returns-then-is_counted : goal.returns-then-is_counted
returns-then-is_counted c few =
    let width = width_of c.args.at.gang in
    let lanes = active (lanes_of width c.args.at.lanes) in
    c.and_step.ensures few ∙ step_noted lanes width c.args.counts ∙ ap (λ b. noted b lanes width 0 c.args.counts) (sym c.if-is_counted.true)

pub returns-else-is_counted : goal.returns-else-is_counted
returns-else-is_counted c few =
    let width = width_of c.args.at.gang in
    let lanes = active (lanes_of width c.args.at.lanes) in
    none_noted lanes width c.args.counts ∙ ap (λ b. noted b lanes width 0 c.args.counts) (sym c.if-is_counted.false)
