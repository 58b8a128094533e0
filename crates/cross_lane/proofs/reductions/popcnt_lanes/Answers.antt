use Rattle.std.proofs.Common.{slice_index, ◌∙◌, ap}
use Rattle.std.specs.List.{count_by}
use Rattle.gang_types.specs.Masks.{lanes_of}
use Rattle.cross_lane.proofs.LaneTests.{count_holds}
use Rattle.cross_lane.proofs.reductions.popcnt_lanes.Goals as goal

pub returns : goal.returns
returns g c =
    λ ty. c.count.ensures.value ∙ ap (count_by (λ b. b)) c.where_true.ensures ∙ count_holds (lanes_of g.row.W c.args.mask) (slice_index c.args.words)
