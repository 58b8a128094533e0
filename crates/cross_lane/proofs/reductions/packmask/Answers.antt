use Rattle.std.proofs.Common.{slice_index, ◌∙◌, ap}
use Rattle.gang_types.specs.Masks.{lanes_of, word_of_lanes}
use Rattle.cross_lane.proofs.LaneTests.{packed_bits}
use Rattle.cross_lane.proofs.reductions.packmask.Goals as goal

pub returns : goal.returns
returns g c =
    λ ty. c.word.ensures ∙ ap word_of_lanes c.where_true.ensures ∙ packed_bits (lanes_of g.row.W c.args.mask) (slice_index c.args.words)
