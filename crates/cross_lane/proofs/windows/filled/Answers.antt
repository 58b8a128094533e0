use Rattle.cross_lane.proofs.Rows.{filled_lane}
use Rattle.cross_lane.proofs.windows.filled.Goals as goal

pub returns : goal.returns
returns c = filled_lane c.args.fill
