use Rattle.std.proofs.Common.{slice_index, ◌∙◌, sym}
use Rattle.gang_types.specs.Laws.{greater_equal_is_less_equal}
use Rattle.lane_kernels.proofs.comparisons.greater_equal.Goals as goal

pub returns : goal.returns
returns g c i h = c.less_equal.ensures i h ∙ sym (greater_equal_is_less_equal c.args.ty (slice_index c.args.a i) (slice_index c.args.b i))
