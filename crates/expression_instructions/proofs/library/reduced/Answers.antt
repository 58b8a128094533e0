use Rattle.std.proofs.Common.{◌∙◌, ap, sym}
use Rattle.gang_types.specs.Masks.{lanes_of}
use Rattle.gang_model.specs.Running.Library.{reduced}
use Rattle.typed_tree.specs.Views.{reduction_view}
use Rattle.cross_lane.specs.Calls.{values_in}
use Rattle.expression_instructions.proofs.library.reduced.Goals as goal

pub returns-in-AnyLane : goal.returns-in-AnyLane
returns-in-AnyLane g c =
    c.any.ensures c.args.value_type
    ∙ ap (λ f. reduced (reduction_view f) c.args.value_type (lanes_of g.row.W c.args.mask) (values_in (lanes_of g.row.W c.args.mask) c.args.values)) (sym c.in-AnyLane.is)

pub returns-in-AllLanes : goal.returns-in-AllLanes
returns-in-AllLanes g c =
    c.all.ensures c.args.value_type
    ∙ ap (λ f. reduced (reduction_view f) c.args.value_type (lanes_of g.row.W c.args.mask) (values_in (lanes_of g.row.W c.args.mask) c.args.values)) (sym c.in-AllLanes.is)

pub returns-in-NoLane : goal.returns-in-NoLane
returns-in-NoLane g c =
    c.none.ensures c.args.value_type
    ∙ ap (λ f. reduced (reduction_view f) c.args.value_type (lanes_of g.row.W c.args.mask) (values_in (lanes_of g.row.W c.args.mask) c.args.values)) (sym c.in-NoLane.is)

pub returns-in-ReduceEqual : goal.returns-in-ReduceEqual
returns-in-ReduceEqual g c =
    c.reduce_equal.ensures c.args.value_type
    ∙ ap (λ f. reduced (reduction_view f) c.args.value_type (lanes_of g.row.W c.args.mask) (values_in (lanes_of g.row.W c.args.mask) c.args.values)) (sym c.in-ReduceEqual.is)

pub returns-in-PopCountLanes : goal.returns-in-PopCountLanes
returns-in-PopCountLanes g c =
    c.popcnt_lanes.ensures c.args.value_type
    ∙ ap (λ f. reduced (reduction_view f) c.args.value_type (lanes_of g.row.W c.args.mask) (values_in (lanes_of g.row.W c.args.mask) c.args.values)) (sym c.in-PopCountLanes.is)

pub returns-in-PackMask : goal.returns-in-PackMask
returns-in-PackMask g c =
    c.packmask.ensures c.args.value_type
    ∙ ap (λ f. reduced (reduction_view f) c.args.value_type (lanes_of g.row.W c.args.mask) (values_in (lanes_of g.row.W c.args.mask) c.args.values)) (sym c.in-PackMask.is)
