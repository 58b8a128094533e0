use Rattle.std.proofs.Common.{slice_index, ◌∙◌, ap}
use Rattle.gang_types.specs.Values.{binary_of}
use Rattle.gang_types.specs.declared.operators.BinaryOp.TheVariants.{Less}
use Rattle.lane_kernels.proofs.VectorLanes.{lane_splat}
use Rattle.lane_kernels.proofs.Scalars.{absolute_is}
use Rattle.lane_kernels.proofs.arithmetic.abs.Goals as goal

pub returns : goal.returns
returns g c i h =
    c.select.ensures i h
    ∙ absolute_is c.args.ty (slice_index c.args.a i) (slice_index c.less.result i) (slice_index c.negate.result i) (slice_index c.convert.result i)
    (c.less.ensures i h ∙ ap (binary_of Less c.args.ty (slice_index c.args.a i)) (lane_splat g.row.W i 0 h))
    (c.negate.ensures i h) (c.convert.ensures i h)
