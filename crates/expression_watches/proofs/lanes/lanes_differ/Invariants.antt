-- the lanes before this one do not differ
use Rattle.std.proofs.Common.{◌≡◌, drop}
use Rattle.expression_watches.specs.LaneSights.{lanes_differ}
use Rattle.expression_watches.proofs.lanes.lanes_differ.Given as goal

abbrev pub invariant-loop-lane : goal.invariant-loop-lane
invariant-loop-lane l = lanes_differ (drop l.lane l.before) (drop l.lane l.now) ≡ lanes_differ l.before l.now
