use Rattle.serde_json.specs.View.{view}
use Rattle.adapter_server.proofs.SentEvents.{sent_one}
use Rattle.adapter_server.proofs.connection.Connection.tell_with.Goals as goal

pub returns-clause-sent : goal.returns-clause-sent
returns-clause-sent g c =
    sent_one g.O.Write.contents c.args.self.now c.number-number.new.self c.send.new.self c.send.result c.number-number.result c.args.name.now (view c.args.body) (view c.in_ok-message.message)
    c.number-number.ensures.number c.number-number.ensures.left c.send.ensures.left c.in_ok-message.ensures c.send.ensures.sent
