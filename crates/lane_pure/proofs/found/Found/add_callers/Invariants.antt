use Rattle.std.proofs.Common.{◌-◌, length}
use Rattle.lane_pure.specs.Callers.{lists}
use Rattle.lane_pure.specs.Found.{IsListed}
use Rattle.lane_pure.proofs.Spreading.{IsSpreading}
use Rattle.lane_pure.proofs.found.Found.add_callers.Given as goal

-- those before this turn have their callers among what was found
abbrev pub invariant-loop-turn : goal.invariant-loop-turn
invariant-loop-turn l =
    IsSpreading (lists l.callers) l.initial.self.marks.items l.self.marks.items l.self.order.items l.turn
    × IsListed l.self.marks.items l.self.order.items

abbrev pub decreases-loop-turn : goal.decreases-loop-turn
decreases-loop-turn l = length l.callers - l.turn
