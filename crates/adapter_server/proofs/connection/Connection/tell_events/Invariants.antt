-- the events so far were sent, and no message was read
use Rattle.std.proofs.Common.{◌≡◌, map, take}
use Rattle.adapter_server.specs.Events.{event_view}
use Rattle.adapter_server.specs.Sending.{Sends}
use Rattle.adapter_server.specs.Serving.{messages_of}
use Rattle.adapter_server.proofs.connection.Connection.tell_events.Given as goal

abbrev pub invariant-loop-event : goal.invariant-loop-event
invariant-loop-event g l =
    (messages_of l.self ≡ messages_of l.fn.self) × Sends g.O.Write.contents l.fn.self l.self (map event_view (take l.event-index l.events))
