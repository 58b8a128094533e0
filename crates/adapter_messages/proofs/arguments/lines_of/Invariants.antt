-- the breakpoints so far
use Rattle.std.proofs.Common.{◌≡◌, map, take}
use Rattle.serde_json.specs.View.{items_of, view}
use Rattle.adapter_messages.specs.Arguments.{asked_breakpoint, breakpoint_in, each_asked}
use Rattle.adapter_messages.proofs.arguments.lines_of.Given as goal

abbrev pub invariant-loop-breakpoint : goal.invariant-loop-breakpoint
invariant-loop-breakpoint l = map asked_breakpoint l.lines.items ≡ each_asked breakpoint_in (items_of (map view (take l.breakpoint-index l.breakpoint-items)))
