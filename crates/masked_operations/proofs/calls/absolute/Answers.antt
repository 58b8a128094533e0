use Rattle.std.proofs.Common.{◌∙◌, slice_index}
use Rattle.gang_types.specs.Library.{absolute}
use Rattle.gang_types.specs.Masks.{lanes_of}
use Rattle.gang_types.specs.MaskLaws.{length-lanes_of_word}
use Rattle.gang_model.specs.Running.Lanes.{at}
use Rattle.cross_lane.specs.EachLaws.{each_same}
use Rattle.masked_operations.proofs.calls.absolute.Goals as goal

pub returns : goal.returns
returns g c =
    c.only.ensures
    ∙ each_same g.row.W (lanes_of g.row.W c.args.mask) (slice_index c.abs.result) (λ k. absolute c.args.value_type (at c.args.words k)) (length-lanes_of_word g.row.W c.args.mask.word)
    (λ i h e. c.abs.ensures i h)
