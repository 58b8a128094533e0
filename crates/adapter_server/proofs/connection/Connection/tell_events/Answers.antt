use Rattle.std.proofs.Common.{◌∙◌}
use Rattle.adapter_server.proofs.SentEvents.{sends_next}
use Rattle.adapter_server.proofs.connection.Connection.tell_events.Goals as goal

pub loop-event-preserved : goal.loop-event-preserved
loop-event-preserved g c = (
  c.tell_event.ensures.messages ∙ c.loop-event.invariant.0,
  sends_next g.O.Write.contents c.args.self.now c.loop-event.self c.tell_event.new.self c.args.events.now c.loop-event.event-index _ _
      c.loop-event-test.true c.event-item.is c.loop-event.invariant.1 c.in_ok-tell_event.ensures.sent c.in_ok-tell_event.ensures.stopped c.in_ok-tell_event.ensures.opened,
)
