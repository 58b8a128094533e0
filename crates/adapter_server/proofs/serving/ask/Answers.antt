use Rattle.adapter_server.proofs.ServedRequests.{asks}
use Rattle.adapter_server.proofs.serving.ask.Goals as goal

pub returns-clause-asked : goal.returns-clause-asked
returns-clause-asked g c =
    asks g.M.RecordedMachine.stands c.args.program.now c.args.request.now c.args.session.now c.answer_request.new.session c.args.terms.now c.answer_request.new.terms c.answer_request.result c.answer_request.ensures.done c.answer_request.ensures.memory
