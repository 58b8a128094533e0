-- what is shown of the ones so far
use Rattle.std.proofs.Common.{◌≡◌, map, take}
use Rattle.serde_json.specs.View.{view}
use Rattle.adapter_messages.specs.Replies.{location}
use Rattle.adapter_messages.proofs.bodies.locations.Given as goal

abbrev pub invariant-loop-line : goal.invariant-loop-line
invariant-loop-line l = map view l.list.items ≡ map location (take l.line-index l.lines)
