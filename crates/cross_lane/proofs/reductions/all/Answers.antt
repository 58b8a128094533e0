use Rattle.std.proofs.Common.{slice_index, ◌∙◌, ap}
use Rattle.gang_types.specs.Lanes.{no_lane, without}
use Rattle.gang_types.specs.Masks.{lanes_of}
use Rattle.gang_model.specs.Running.Lanes.{truth_word}
use Rattle.cross_lane.proofs.LaneTests.{all_hold}
use Rattle.cross_lane.proofs.reductions.all.Goals as goal

pub returns : goal.returns
returns g c =
    λ ty. c.truth_word.ensures
    ∙ ap truth_word
    (c.is_empty.ensures
    ∙ ap no_lane (c.without.ensures g.row.W ∙ ap (without (lanes_of g.row.W c.args.mask)) c.where_true.ensures)
    ∙ all_hold (lanes_of g.row.W c.args.mask) (slice_index c.args.words))
