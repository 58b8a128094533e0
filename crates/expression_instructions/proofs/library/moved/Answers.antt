use Rattle.std.proofs.Common.{◌∙◌, sym, ap, slice_index, arith}
use Rattle.gang_types.specs.Masks.{lanes_of}
use Rattle.gang_types.specs.MaskLaws.{length-lanes_of_word}
use Rattle.cross_lane.specs.Calls.{values_in}
use Rattle.cross_lane.specs.EachLaws.{each_is, each_same}
use Rattle.expression_instructions.specs.Values.{moved_word}
use Rattle.expression_instructions.proofs.library.moved.Goals as goal

pub returns-in-Some : goal.returns-in-Some
returns-in-Some g c =
    c.moved_by.ensures
    ∙ each_same g.row.W (lanes_of g.row.W c.args.mask)
    (λ k. moved_word c.args.how (lanes_of g.row.W c.args.mask) (values_in (lanes_of g.row.W c.args.mask) c.args.values) c.in-Some.amount k)
    (λ k. moved_word c.args.how (lanes_of g.row.W c.args.mask) (values_in (lanes_of g.row.W c.args.mask) c.args.values) (slice_index c.args.amounts k) k)
    (length-lanes_of_word g.row.W c.args.mask.word)
    (λ i h e. ap (λ n. moved_word c.args.how (lanes_of g.row.W c.args.mask) (values_in (lanes_of g.row.W c.args.mask) c.args.values) n i) (sym (c.in-Some.ensures i h e)))

pub returns : goal.returns
returns g c =
    each_is g.row.W (lanes_of g.row.W c.args.mask) (λ k. moved_word c.args.how (lanes_of g.row.W c.args.mask) (values_in (lanes_of g.row.W c.args.mask) c.args.values) (slice_index c.args.amounts k) k)
    c.loop-lane.moved (length-lanes_of_word g.row.W c.args.mask.word) c.loop-lane.invariant.0 (λ i h. c.loop-lane.invariant.1 i (omega arith))
