-- what is shown of the ones so far
use Rattle.std.proofs.Common.{◌≡◌, map, take}
use Rattle.serde_json.specs.View.{view}
use Rattle.adapter_messages.specs.Replies.{completion}
use Rattle.adapter_messages.proofs.bodies.completions.Given as goal

abbrev pub invariant-loop-name : goal.invariant-loop-name
invariant-loop-name l = map view l.list.items ≡ map completion (take l.name-index l.made)
