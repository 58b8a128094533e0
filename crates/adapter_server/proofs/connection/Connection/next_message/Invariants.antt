-- what was read so far was let go, and lines of the console told why
use Rattle.adapter_server.specs.Sending.{SaysLines}
use Rattle.adapter_server.specs.Serving.{LetsGo, unread}
use Rattle.adapter_server.proofs.connection.Connection.next_message.Given as goal

abbrev pub invariant-loop : goal.invariant-loop
invariant-loop g l = let left = g.R.Read.remaining in LetsGo (unread left l.fn.self) (unread left l.self) × SaysLines g.O.Write.contents l.fn.self l.self
