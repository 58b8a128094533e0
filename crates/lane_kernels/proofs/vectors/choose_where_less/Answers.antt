use Rattle.std.proofs.Common.{nat_lt}
use Rattle.lane_kernels.proofs.VectorLanes.{lane_chosen}
use Rattle.lane_kernels.proofs.vectors.choose_where_less.Goals as goal

pub returns : goal.returns
returns g c =
    lane_chosen g.row.W nat_lt c.args.a c.args.b c.args.first c.args.other c.fits-a.0 c.fits-b.0 c.fits-first.0 c.fits-other.0
