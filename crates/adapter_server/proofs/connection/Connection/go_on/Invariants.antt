-- what the messages so far come to was done and told, and nothing else
use Rattle.adapter_server.specs.Hearing.{HearsAll}
use Rattle.adapter_server.specs.Serving.{Serves, run_of, setup_of, unread}
use Rattle.adapter_server.proofs.connection.Connection.go_on.Given as goal

abbrev pub invariant-loop : goal.invariant-loop
invariant-loop g l =
    let left = g.R.Read.remaining in
    let stands = g.M.RecordedMachine.stands in
    let leads = g.F.FileFinder.leads l.fn.files in
    Serves stands leads (setup_of l.fn.launch) (unread left l.fn.self) (unread left l.self) (run_of l.fn.session l.fn.terms) (run_of l.session l.terms)
    × HearsAll stands leads left g.O.Write.contents (setup_of l.fn.launch) l.fn.self l.self (run_of l.fn.session l.fn.terms) (run_of l.session l.terms)
