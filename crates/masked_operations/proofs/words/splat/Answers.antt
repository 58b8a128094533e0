use Rattle.std.proofs.Common.{◌∙◌, slice_index}
use Rattle.std.specs.Prelude.{replicate}
use Rattle.gang_types.specs.Masks.{lanes_of}
use Rattle.gang_types.specs.MaskLaws.{length-lanes_of_word}
use Rattle.cross_lane.specs.EachLaws.{each_same}
use Rattle.lane_kernels.proofs.VectorLanes.{lane_splat}
use Rattle.masked_operations.proofs.words.splat.Goals as goal

pub returns : goal.returns
returns g c =
    c.active_words.ensures
    ∙ each_same g.row.W (lanes_of g.row.W c.args.mask) (slice_index (replicate g.row.W c.args.word)) (λ k. c.args.word) (length-lanes_of_word g.row.W c.args.mask.word)
    (λ i h e. lane_splat g.row.W i c.args.word h)
