use Rattle.std.proofs.Common.{◌∙◌, ap, refl}
use Rattle.serde_json.specs.Data.{no_members, object}
use Rattle.serde_json.specs.View.{members_view}
use Rattle.serde_json.proofs.Views.{view-Object}
use Rattle.adapter_messages.specs.Messages.{event}
use Rattle.adapter_server.specs.Sending.{SendsOne}
use Rattle.adapter_server.proofs.SentEvents.{of_body}
use Rattle.adapter_server.proofs.connection.Connection.tell.Goals as goal

pub returns-clause-sent : goal.returns-clause-sent
returns-clause-sent g c =
    of_body c.tell_with.result (λ body. SendsOne g.O.Write.contents c.args.self.now c.tell_with.new.self (λ number. event number c.args.name.now body)) _ (object no_members)
    (view-Object c.new.result ∙ ap (λ entries. object (members_view entries)) c.new.ensures.empty) refl c.tell_with.ensures.sent
