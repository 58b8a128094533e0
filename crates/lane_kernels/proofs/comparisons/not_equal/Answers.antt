use Rattle.std.proofs.Common.{slice_index, nat_eq, ◌∙◌, sym}
use Rattle.gang_types.specs.Laws.{not_equal_any}
use Rattle.lane_kernels.proofs.VectorLanes.{cond_not}
use Rattle.lane_kernels.proofs.comparisons.not_equal.Goals as goal

pub returns : goal.returns
returns g c i h =
    c.where_equal.ensures i h
    ∙ sym (not_equal_any c.args.ty (slice_index c.args.a i) (slice_index c.args.b i) ∙ cond_not (nat_eq (slice_index c.args.a i) (slice_index c.args.b i)) 1 0)
