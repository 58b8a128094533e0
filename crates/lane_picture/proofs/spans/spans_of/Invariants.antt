-- what goes on where the rows so far end completes them
use Rattle.std.proofs.Common.{◌≤◌, ◌-◌}
use Rattle.lane_picture.proofs.RowSpans.{GoOn}
use Rattle.lane_picture.proofs.spans.spans_of.Given as goal

abbrev pub invariant-loop-from : goal.invariant-loop-from
invariant-loop-from l = record { inside : l.from ≤ l.columns; on : GoOn l.most l.columns l.from l.spans.items }

abbrev pub decreases-loop-from : goal.decreases-loop-from
decreases-loop-from l = l.columns - l.from
