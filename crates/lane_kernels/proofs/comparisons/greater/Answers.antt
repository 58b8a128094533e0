use Rattle.std.proofs.Common.{slice_index, ◌∙◌, sym}
use Rattle.gang_types.specs.Laws.{greater_is_less}
use Rattle.lane_kernels.proofs.comparisons.greater.Goals as goal

pub returns : goal.returns
returns g c i h = c.less.ensures i h ∙ sym (greater_is_less c.args.ty (slice_index c.args.a i) (slice_index c.args.b i))
