use Rattle.std.proofs.Common.{◌∙◌, slice_index}
use Rattle.gang_types.specs.Masks.{lanes_of}
use Rattle.gang_types.specs.MaskLaws.{length-lanes_of_word}
use Rattle.cross_lane.specs.EachLaws.{each_same, lane_number}
use Rattle.masked_operations.proofs.words.lane_numbers.Goals as goal

pub returns : goal.returns
returns g c =
    c.active_words.ensures
    ∙ each_same g.row.W (lanes_of g.row.W c.args.mask) (slice_index c.lane_numbers.result) (λ k. k) (length-lanes_of_word g.row.W c.args.mask.word)
    (λ i h e. lane_number g.row.W c.lane_numbers.result c.lane_numbers.ensures i h)
