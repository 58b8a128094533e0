-- what is shown of the ones so far
use Rattle.std.proofs.Common.{◌≡◌, map, take}
use Rattle.serde_json.specs.View.{view}
use Rattle.adapter_messages.specs.Replies.{variable}
use Rattle.adapter_messages.proofs.variables.variables.Given as goal

abbrev pub invariant-loop-variable : goal.invariant-loop-variable
invariant-loop-variable l = map view l.list.items ≡ map variable (take l.variable-index l.found)
