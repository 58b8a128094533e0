-- what is shown of the ones so far
use Rattle.std.proofs.Common.{◌≡◌, map, take}
use Rattle.serde_json.specs.View.{view}
use Rattle.adapter_messages.specs.Replies.{breakpoint}
use Rattle.adapter_messages.proofs.bodies.breakpoints.Given as goal

abbrev pub invariant-loop-breakpoint : goal.invariant-loop-breakpoint
invariant-loop-breakpoint l = map view l.list.items ≡ map breakpoint (take l.breakpoint-index l.made)
