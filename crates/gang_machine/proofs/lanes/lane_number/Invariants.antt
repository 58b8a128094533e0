-- the lane is past the forms of the levels from this one on
use Rattle.mask_states.specs.Points.{closing_number, points_in}
use Rattle.machine_states.specs.Shows.{level_words}
use Rattle.machine_words.specs.Words.{regions_in}
use Rattle.gang_machine.specs.LaneNumbers.{HasForms}
use Rattle.gang_machine.proofs.LaneNumbers.{ArePassed}
use Rattle.gang_machine.proofs.lanes.lane_number.Given as goal

abbrev pub decreases-loop-level : goal.decreases-loop-level
decreases-loop-level g l = l.level

abbrev pub invariant-loop-level : goal.invariant-loop-level
invariant-loop-level g l =
    (has : HasForms g.row.W l.compiled (regions_in g.T.Timeline.history g.row.W l.words) l.frame l.function l.innermost)
    → ArePassed (points_in has.f) g.row.W (level_words (regions_in g.T.Timeline.history g.row.W l.words) l.frame) (closing_number has.f) l.lane has.forms l.level
