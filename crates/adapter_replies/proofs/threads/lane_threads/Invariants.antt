-- the threads of the lanes before this one
use Rattle.std.proofs.Common.{◌≡◌, map}
use Rattle.std.specs.List.{range_with_len}
use Rattle.adapter_replies.specs.Threads.{lane_thread}
use Rattle.adapter_replies.specs.Told.{thread_view}
use Rattle.adapter_replies.specs.Waiting.{position_lanes}
use Rattle.adapter_replies.proofs.threads.lane_threads.Given as goal

abbrev pub invariant-loop-lane : goal.invariant-loop-lane
invariant-loop-lane l = map thread_view l.threads.items ≡ map (lane_thread (position_lanes l.fn.position)) (range_with_len 0 l.lane)
