-- the record has the words and the room that an event needs
use Rattle.std.proofs.Common.{◌≤◌, length}
use Rattle.record_bench.proofs.events.make.Given as goal

abbrev pub invariant-loop-count : goal.invariant-loop-count
invariant-loop-count g l =
    (1003 ≤ length (g.T.Timeline.history l.timeline).words) × (4 ≤ (g.T.Timeline.history l.timeline).room)
