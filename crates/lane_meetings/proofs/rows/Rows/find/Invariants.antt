-- no row before this one is of these lines
use Rattle.std.proofs.Common.{◌≡◌, take}
use Rattle.lane_meetings.specs.Partings.{rows_of}
use Rattle.lane_meetings.proofs.rows.Rows.find.Given as goal

abbrev pub invariant-loop-number : goal.invariant-loop-number
invariant-loop-number l = rows_of l.line l.meets_at (take l.number l.row-items) ≡ 0
