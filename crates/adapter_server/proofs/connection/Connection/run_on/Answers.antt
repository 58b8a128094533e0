use Rattle.adapter_requests.specs.declared.request.Request.TheVariants.{Continue}
use Rattle.adapter_server.specs.Serving.{run_of}
use Rattle.adapter_server.specs.Threads.{threads_of}
use Rattle.adapter_server.proofs.ToldEvents.{told_one}
use Rattle.adapter_server.proofs.connection.Connection.run_on.Goals as goal

pub returns-clause-told : goal.returns-clause-told
returns-clause-told g c =
    told_one g.M.RecordedMachine.stands g.O.Write.contents (threads_of c.args.launch.now) c.args.launch.now.program.now Continue c.args.self.now c.tell_of.new.self (run_of c.args.session.now c.args.terms.now) (run_of c.ask.new.session c.ask.new.terms)
    c.tell_of.result c.in_ok-answered.answered c.in_ok-answered.ensures.done c.tell_of.ensures.told
