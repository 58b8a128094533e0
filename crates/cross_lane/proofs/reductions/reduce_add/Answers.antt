use Rattle.std.proofs.Common.{rules, ◌<◌, ◌^◌, ℕ, slice_index, ◌∙◌}
use Rattle.gang_types.specs.Masks.{lanes_of}
use Rattle.gang_types.specs.MaskLaws.{length-lanes_of_word}
use Rattle.cross_lane.proofs.Joined.{sum_reduced}
use Rattle.cross_lane.proofs.reductions.reduce_add.Goals as goal

pub returns : goal.returns
returns g c =
    let fits : (k : ℕ) → slice_index c.args.words k < 2 ^ 64 = λ k. search rules in
    c.convert.ensures.value
    ∙ sum_reduced c.args.ty c.sum_type.result g.row.W (lanes_of g.row.W c.args.mask) (slice_index c.args.words) c.folded-sum.result c.sum_type.ensures
    (length-lanes_of_word g.row.W c.args.mask.word) fits c.folded-sum.ensures
