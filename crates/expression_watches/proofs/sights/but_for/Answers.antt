use Rattle.std.proofs.Common.{arith}
use Rattle.expression_watches.proofs.FewerLanes.{lane_out, none_out}
use Rattle.expression_watches.proofs.sights.but_for.Goals as goal

pub returns-then-lane-lt-WIDEST : goal.returns-then-lane-lt-WIDEST
returns-then-lane-lt-WIDEST c w within =
    lane_out w c.args.lanes.word c.only.result.word c.args.lane c.without.result.word within (omega (arith, c.if-lane-lt-WIDEST.true)) c.only.ensures (c.without.ensures w)

pub returns-else-lane-lt-WIDEST : goal.returns-else-lane-lt-WIDEST
returns-else-lane-lt-WIDEST c w within = none_out w c.args.lanes.word c.args.lane within (omega (arith, c.if-lane-lt-WIDEST.false))
