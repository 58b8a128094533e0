use Rattle.std.proofs.Common.{◌∙◌, ap, slice_index}
use Rattle.gang_types.specs.Masks.{lanes_of}
use Rattle.cross_lane.specs.Calls.{values_in}
use Rattle.cross_lane.specs.EachLaws.{lane_kept}
use Rattle.expression_instructions.specs.Values.{moved_word}
use Rattle.expression_instructions.proofs.library.moved_to.Goals as goal

pub returns : goal.returns
returns g c =
    ap (λ xs. slice_index xs c.args.lane) c.moved_by.ensures
    ∙ lane_kept (lanes_of g.row.W c.args.mask) (moved_word c.args.how (lanes_of g.row.W c.args.mask) (values_in (lanes_of g.row.W c.args.mask) c.args.values) c.args.amount) c.args.lane c.requires.active
