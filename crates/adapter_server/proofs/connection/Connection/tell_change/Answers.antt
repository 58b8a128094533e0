use Rattle.std.proofs.Common.{codes}
use Rattle.serde_json.specs.View.{view}
use Rattle.adapter_messages.specs.Messages.{event}
use Rattle.adapter_messages.specs.Replies.{change_body}
use Rattle.adapter_server.specs.Sending.{SendsOne}
use Rattle.adapter_server.proofs.SentEvents.{change_plain, of_body}
use Rattle.adapter_server.proofs.connection.Connection.tell_change.Goals as goal

pub returns-clause-sent : goal.returns-clause-sent
returns-clause-sent g c =
    of_body c.tell_with.result (λ body. SendsOne g.O.Write.contents c.args.self.now c.tell_with.new.self (λ number. event number (codes "invalidated") body)) (view c.in_ok-body.body) change_body
    c.in_ok-body.ensures change_plain c.tell_with.ensures.sent
