use Rattle.std.proofs.Common.{◌∷◌, [], ap, codes}
use Rattle.serde_json.specs.View.{view}
use Rattle.adapter_messages.specs.Messages.{event}
use Rattle.adapter_messages.specs.Replies.{output_body}
use Rattle.opened_texts.specs.Texts.{texts_of}
use Rattle.adapter_server.specs.Events.{Says}
use Rattle.adapter_server.specs.Sending.{Sends, SendsOne, event_data}
use Rattle.adapter_server.proofs.SentEvents.{of_body, output_plain, sends_just}
use Rattle.adapter_server.proofs.ServedRequests.{on_ok_then}
use Rattle.adapter_server.proofs.connection.Connection.tell_console.Goals as goal

pub returns-clause-sent : goal.returns-clause-sent
returns-clause-sent g c =
    let text = c.args.text.now in
    of_body c.tell_with.result (λ body. SendsOne g.O.Write.contents c.args.self.now c.tell_with.new.self (λ number. event number (codes "output") body)) (view c.in_ok-body.body) (output_body text)
    c.in_ok-body.ensures (output_plain text) c.tell_with.ensures.sent

pub returns-clause-said : goal.returns-clause-said
returns-clause-said g c =
    let text = c.args.text.now in
    let contents = g.O.Write.contents in
    let sent = of_body c.tell_with.result (λ body. SendsOne contents c.args.self.now c.tell_with.new.self (λ number. event number (codes "output") body)) (view c.in_ok-body.body) (output_body text)
    c.in_ok-body.ensures (output_plain text) c.tell_with.ensures.sent in
    on_ok_then c.tell_with.result (SendsOne contents c.args.self.now c.tell_with.new.self (event_data (Says text))) (Sends contents c.args.self.now c.tell_with.new.self (Says text ∷ [])) sent
    (λ one. sends_just contents c.args.self.now c.tell_with.new.self (Says text) one c.tell_with.ensures.stopped (ap texts_of c.tell_with.ensures.opened))
