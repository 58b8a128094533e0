-- what is shown of the ones so far
use Rattle.std.proofs.Common.{◌≡◌, map, take}
use Rattle.serde_json.specs.View.{view}
use Rattle.adapter_messages.specs.Replies.{thread}
use Rattle.adapter_messages.proofs.bodies.threads.Given as goal

abbrev pub invariant-loop-thread : goal.invariant-loop-thread
invariant-loop-thread l = map view l.list.items ≡ map thread (take l.thread-index l.made)
