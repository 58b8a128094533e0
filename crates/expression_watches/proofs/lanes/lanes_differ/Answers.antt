use Rattle.std.proofs.Common.{sym, ◌∙◌, arith}
use Rattle.expression_watches.proofs.LaneLists.{differ_end}
use Rattle.expression_watches.proofs.lanes.lanes_differ.Goals as goal

pub returns : goal.returns
returns c =
    sym (differ_end c.args.before.now c.args.now.now c.loop-lane.lane (omega (arith, c.loop-lane-test.false, c.min-lane-end.ensures))) ∙ c.loop-lane.invariant
