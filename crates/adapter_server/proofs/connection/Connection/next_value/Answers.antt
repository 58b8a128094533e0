use Rattle.std.proofs.Common.{◌∙◌, sym, ap}
use Rattle.serde_json.specs.Read.{read}
use Rattle.serde_json.specs.View.{view}
use Rattle.adapter_server.specs.Serving.{messages_of, unread}
use Rattle.adapter_server.proofs.ReadMessages.{ended_at, lets_more_go, reading, reads_json, told}
use Rattle.adapter_server.proofs.SentEvents.{says_on}
use Rattle.adapter_server.proofs.connection.Connection.next_value.Goals as goal

pub returns-in_err-message-clause-read : goal.returns-in_err-message-clause-read
returns-in_err-message-clause-read g c =
    let left = g.R.Read.remaining in
    let start = unread left c.args.self.now in
    ended_at _ _ c.from_residual.result _ c.from_residual.ensures.1 (lets_more_go start (unread left c.loop.self) (unread left c.next_message.new.self) c.loop.invariant.0 c.in_err-message.ensures.read)

pub returns-in-Ok-clause-read : goal.returns-in-Ok-clause-read
returns-in-Ok-clause-read g c =
    let left = g.R.Read.remaining in
    reads_json (unread left c.args.self.now) (unread left c.loop.self) (unread left c.next_message.new.self) c.in_ok-message.message.items (view c.in-Ok.value) c.loop.invariant.0 c.in_ok-message.ensures.read
    (ap read (sym c.as_slice.ensures.value) ∙ c.in-Ok.ensures.ok.1)

pub returns-in_err-refuse_text-in-Err-clause-read : goal.returns-in_err-refuse_text-in-Err-clause-read
returns-in_err-refuse_text-in-Err-clause-read g c =
    let left = g.R.Read.remaining in
    let start = unread left c.args.self.now in
    let here = unread left c.loop.self in
    let new = unread left c.next_message.new.self in
    ended_at _ _ c.from_residual-in_err-refuse_text-in-Err.result _ c.from_residual-in_err-refuse_text-in-Err.ensures.1
    (told left start (messages_of c.next_message.new.self) c.refuse_text.new.self c.refuse_text.ensures.messages (lets_more_go start here new c.loop.invariant.0 (reading here new c.in_ok-message.message.items c.in_ok-message.ensures.read)))

pub loop-preserved : goal.loop-preserved
loop-preserved g c =
    let left = g.R.Read.remaining in
    let contents = g.O.Write.contents in
    let start = unread left c.args.self.now in
    let here = unread left c.loop.self in
    let new = unread left c.next_message.new.self in (
      told left start (messages_of c.next_message.new.self) c.refuse_text.new.self c.refuse_text.ensures.messages (lets_more_go start here new c.loop.invariant.0 (reading here new c.in_ok-message.message.items c.in_ok-message.ensures.read)),
      says_on contents c.args.self.now c.next_message.new.self c.refuse_text.new.self
          (says_on contents c.args.self.now c.loop.self c.next_message.new.self c.loop.invariant.1 c.in_ok-message.ensures.said) c.in_ok-refuse_text-in-Err.ensures.said,
    )

pub returns-in-Ok-clause-said : goal.returns-in-Ok-clause-said
returns-in-Ok-clause-said g c = says_on g.O.Write.contents c.args.self.now c.loop.self c.next_message.new.self c.loop.invariant.1 c.in_ok-message.ensures.said
