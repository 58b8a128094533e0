-- each message so far was heard
use Rattle.adapter_server.specs.Hearing.{HearsAllBefore}
use Rattle.adapter_server.proofs.connection.Connection.await_launch.Given as goal

abbrev pub invariant-loop : goal.invariant-loop
invariant-loop g l = HearsAllBefore g.R.Read.remaining g.O.Write.contents l.fn.self l.self
