use Rattle.std.proofs.Common.{nat_eq}
use Rattle.lane_kernels.proofs.VectorLanes.{lane_picked}
use Rattle.lane_kernels.proofs.vectors.where_equal.Goals as goal

pub returns : goal.returns
returns g c = lane_picked g.row.W nat_eq c.args.a c.args.b c.args.yes c.args.no c.fits-a.0 c.fits-b.0
