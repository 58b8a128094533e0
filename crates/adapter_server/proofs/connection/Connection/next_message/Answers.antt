use Rattle.adapter_frames.specs.Reading as frames
use Rattle.adapter_frames.specs.Reading.{kept, reader_of}
use Rattle.adapter_server.specs.Serving.{unread}
use Rattle.adapter_server.proofs.Ends.{at_end_without}
use Rattle.adapter_server.proofs.ReadMessages.{ended_at, failing, lets_more_go, told}
use Rattle.adapter_server.proofs.SentEvents.{says_on, says_reading}
use Rattle.adapter_server.proofs.connection.Connection.next_message.Goals as goal

pub returns-in_err-refuse_head-in-Err-Head-clause-read : goal.returns-in_err-refuse_head-in-Err-Head-clause-read
returns-in_err-refuse_head-in-Err-Head-clause-read g c =
    let left = g.R.Read.remaining in
    let start = unread left c.args.self.now in
    let messages = c.next_message.new.self in
    let refused = failing (unread left c.loop.self) (frames.unread left messages) (kept messages) (left (reader_of messages)) c.in-Err-Head.field-0 c.in-Err-Head.ensures.fault in
    ended_at _ _ c.from_residual-in_err-refuse_head-in-Err-Head.result _ c.from_residual-in_err-refuse_head-in-Err-Head.ensures.1
    (told left start messages c.refuse_head.new.self c.refuse_head.ensures.messages (lets_more_go start (unread left c.loop.self) (frames.unread left messages) c.loop.invariant.0 refused))

pub loop-preserved : goal.loop-preserved
loop-preserved g c =
    let left = g.R.Read.remaining in
    let contents = g.O.Write.contents in
    let start = unread left c.args.self.now in
    let messages = c.next_message.new.self in
    let refused = failing (unread left c.loop.self) (frames.unread left messages) (kept messages) (left (reader_of messages)) c.in-Err-Head.field-0 c.in-Err-Head.ensures.fault in
    let behind = record c.loop.self { messages = messages } in (
      told left start messages c.refuse_head.new.self c.refuse_head.ensures.messages (lets_more_go start (unread left c.loop.self) (frames.unread left messages) c.loop.invariant.0 refused),
      says_on contents c.args.self.now behind c.refuse_head.new.self (says_reading contents c.args.self.now c.loop.self messages c.loop.invariant.1) c.in_ok-refuse_head-in-Err-Head.ensures.said,
    )

pub returns-in-Ok-Some-clause-said : goal.returns-in-Ok-Some-clause-said
returns-in-Ok-Some-clause-said g c = says_reading g.O.Write.contents c.args.self.now c.loop.self c.next_message.new.self c.loop.invariant.1

pub returns-in-Ok-None-clause-ends : goal.returns-in-Ok-None-clause-ends
returns-in-Ok-None-clause-ends g c =
    let messages = c.next_message.new.self in
    at_end_without _ c.in-Ok-None.field-0 (kept messages) (g.R.Read.remaining (reader_of messages)) c.in-Ok-None.field-0-is c.in-Ok-None.ensures.end
