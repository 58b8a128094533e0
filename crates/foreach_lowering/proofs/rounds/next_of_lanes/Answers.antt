use Rattle.std.proofs.Common.{◌∙◌}
use Rattle.gang_types.specs.Masks.{lanes_of}
use Rattle.foreach_lowering.proofs.NextLanes.{lone_is}
use Rattle.foreach_lowering.proofs.FormRounds.{lane_form}
use Rattle.foreach_lowering.proofs.rounds.next_of_lanes.Goals as goal

pub only-requires-clause-within : goal.only-requires-clause-within
only-requires-clause-within g c = c.in_ok-round.ensures.1

pub returns : goal.returns
returns g c = (
  λ form is. (
    lane_form g.row.W form is.0 (lanes_of g.row.W c.args.lanes) (lanes_of g.row.W c.only.result) (lanes_of g.row.W c.in_ok-round.round.later) c.in_ok-round.round.lane is.1
        (c.only.ensures ∙ lone_is g.row.W c.in_ok-round.round.lane c.in_ok-round.ensures.1) c.in_ok-round.ensures.0,
    is,
  ),
  tt,
  tt,
)
