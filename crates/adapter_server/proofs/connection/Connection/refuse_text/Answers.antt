use Rattle.adapter_server.proofs.SentEvents.{says_one}
use Rattle.adapter_server.proofs.ServedRequests.{on_ok_then}
use Rattle.adapter_server.proofs.connection.Connection.refuse_text.Goals as goal

pub returns-clause-said : goal.returns-clause-said
returns-clause-said g c =
    on_ok_then c.tell_console.result _ _ c.tell_console.ensures.said (λ sends. says_one g.O.Write.contents c.args.self.now c.tell_console.new.self _ sends)
