use Rattle.std.proofs.Common.{◌∙◌, sym, ap, slice_index}
use Rattle.gang_types.specs.Masks.{lanes_of}
use Rattle.gang_types.specs.MaskLaws.{length-lanes_of_word}
use Rattle.gang_model.specs.Running.Library.{lane_value}
use Rattle.cross_lane.specs.Calls.{values_in}
use Rattle.cross_lane.specs.AttemptLaws.{attempts_same}
use Rattle.expression_instructions.proofs.library.picked.Goals as goal

pub returns-in-Some : goal.returns-in-Some
returns-in-Some g c =
    c.broadcast.ensures
    ∙ attempts_same g.row.W (lanes_of g.row.W c.args.mask)
    (λ k. lane_value (values_in (lanes_of g.row.W c.args.mask) c.args.values) c.in-Some.place)
    (λ k. lane_value (values_in (lanes_of g.row.W c.args.mask) c.args.values) (slice_index c.args.places k))
    (length-lanes_of_word g.row.W c.args.mask.word)
    (λ i h e. ap (lane_value (values_in (lanes_of g.row.W c.args.mask) c.args.values)) (sym (c.in-Some.ensures i h e)))
