use Rattle.std.proofs.Common.{◌∙◌, ap, codes, subst}
use Rattle.serde_json.specs.Written.{has_float}
use Rattle.adapter_messages.specs.Messages.{event}
use Rattle.adapter_server.specs.Sending.{SendsOne}
use Rattle.adapter_server.proofs.SentEvents.{stop_plain}
use Rattle.adapter_server.proofs.connection.Connection.tell_stop.Goals as goal

pub returns-clause-sent : goal.returns-clause-sent
returns-clause-sent g c =
    let text = c.args.text.now in
    let made = c.in_ok-tell_with.ensures.sent (ap has_float c.in_ok-body.ensures ∙ stop_plain c.args.reason c.args.thread text) in
    let sent = subst (λ body. SendsOne g.O.Write.contents c.args.self.now c.tell_with.new.self (λ number. event number (codes "stopped") body)) c.in_ok-body.ensures made in
    record { bytes = sent.bytes; next = sent.next; hears = sent.hears }
