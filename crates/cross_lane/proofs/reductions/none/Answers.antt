use Rattle.std.proofs.Common.{slice_index, ◌∙◌, ap}
use Rattle.gang_types.specs.Lanes.{no_lane}
use Rattle.gang_types.specs.Masks.{lanes_of}
use Rattle.gang_model.specs.Running.Lanes.{truth_word}
use Rattle.cross_lane.proofs.LaneTests.{none_holds}
use Rattle.cross_lane.proofs.reductions.none.Goals as goal

pub returns : goal.returns
returns g c =
    λ ty. c.truth_word.ensures ∙ ap (λ b. truth_word b) (c.is_empty.ensures ∙ ap no_lane c.where_true.ensures ∙ none_holds (lanes_of g.row.W c.args.mask) (slice_index c.args.words))
