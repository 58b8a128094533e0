-- the breakpoints of functions so far
use Rattle.std.proofs.Common.{◌≡◌, map, take}
use Rattle.serde_json.specs.View.{items_of, view}
use Rattle.adapter_messages.specs.Arguments.{asked_function, each_asked, function_in}
use Rattle.adapter_messages.proofs.arguments.functions_of.Given as goal

abbrev pub invariant-loop-breakpoint : goal.invariant-loop-breakpoint
invariant-loop-breakpoint l = map asked_function l.functions.items ≡ each_asked function_in (items_of (map view (take l.breakpoint-index l.breakpoint-items)))
