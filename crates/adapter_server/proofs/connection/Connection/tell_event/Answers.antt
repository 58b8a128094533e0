use Rattle.std.proofs.Common.{OnOk, subst, sym}
use Rattle.adapter_server.specs.Events.{event_view}
use Rattle.adapter_server.specs.Sending.{SendsOne, event_data}
use Rattle.adapter_server.proofs.connection.Connection.tell_event.Goals as goal

pub returns-in-End-clause-sent : goal.returns-in-End-clause-sent
returns-in-End-clause-sent g c =
    subst (λ event. OnOk c.tell.result (SendsOne g.O.Write.contents c.args.self.now c.tell.new.self (event_data (event_view event)))) (sym c.in-End.is) c.tell.ensures.sent

pub returns-in-Change-clause-sent : goal.returns-in-Change-clause-sent
returns-in-Change-clause-sent g c =
    subst (λ event. OnOk c.tell_change.result (SendsOne g.O.Write.contents c.args.self.now c.tell_change.new.self (event_data (event_view event)))) (sym c.in-Change.is) c.tell_change.ensures.sent
