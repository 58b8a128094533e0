use Rattle.std.proofs.Common.{slice_index, ◌∙◌, ap, sym}
use Rattle.gang_types.specs.Values.{binary_of}
use Rattle.gang_types.specs.declared.operators.BinaryOp.TheVariants.{Sub}
use Rattle.gang_types.specs.UnaryLaws.{negate_is_sub}
use Rattle.lane_kernels.proofs.VectorLanes.{lane_splat}
use Rattle.lane_kernels.proofs.arithmetic.negate.Goals as goal

pub returns : goal.returns
returns g c i h =
    c.sub.ensures i h
    ∙ ap (λ x. binary_of Sub c.args.ty x (slice_index c.args.a i)) (lane_splat g.row.W i 0 h)
    ∙ sym (negate_is_sub c.args.ty (slice_index c.args.a i))
