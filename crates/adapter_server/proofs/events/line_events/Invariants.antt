-- those of the lines so far
use Rattle.std.proofs.Common.{◌≡◌, map, string_bytes}
use Rattle.adapter_server.specs.Events.{Says, event_view}
use Rattle.adapter_server.proofs.events.line_events.Given as goal

abbrev pub invariant-loop-line : goal.invariant-loop-line
invariant-loop-line l = map event_view l.events.items ≡ map Says (map string_bytes l.yielded)
