use Rattle.std.proofs.Common.{slice_index, ◌∙◌, sym}
use Rattle.gang_types.specs.Laws.{equal_any}
use Rattle.lane_kernels.proofs.comparisons.equal.Goals as goal

pub returns : goal.returns
returns g c i h = c.where_equal.ensures i h ∙ sym (equal_any c.args.ty (slice_index c.args.a i) (slice_index c.args.b i))
