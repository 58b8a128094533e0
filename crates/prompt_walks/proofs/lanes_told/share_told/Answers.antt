use Rattle.std.proofs.Common.{◌<◌, arith}
use Rattle.std.specs.Prelude.{◌^◌}
use Rattle.lane_counts.specs.Shares.{lost, share}
use Rattle.prompt_walks.proofs.LanesSoFar.{same_told}
use Rattle.prompt_walks.proofs.lanes_told.share_told.Goals as goal

pub returns : goal.returns
returns c few wide =
    let steps : c.args.counts.steps < 2 ^ 48 = omega (arith, few.steps) in
    let lanes : c.args.counts.lane_steps < 2 ^ 53 = omega (arith, few.lane_steps) in
    same_told c.args.counts.steps _ _ _ _ (c.share.ensures steps lanes wide) (c.lost.ensures steps wide)
