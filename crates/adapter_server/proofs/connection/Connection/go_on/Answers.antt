use Rattle.serde_json.specs.View.{view}
use Rattle.adapter_server.specs.Serving.{run_of, setup_by, setup_of, unread}
use Rattle.adapter_server.proofs.ReadMessages.{serves_answer, serves_end}
use Rattle.adapter_server.proofs.HeardMessages.{hears_more, hears_until}
use Rattle.adapter_server.proofs.connection.Connection.go_on.Goals as goal

pub returns-in_err-message-clause-done : goal.returns-in_err-message-clause-done
returns-in_err-message-clause-done g c =
    let left = g.R.Read.remaining in
    serves_end g.M.RecordedMachine.stands (g.F.FileFinder.leads c.args.files.now) (setup_of c.args.launch.now) (unread left c.args.self.now) (unread left c.loop.self) (unread left c.next_value.new.self) (run_of c.args.session.now c.args.terms.now) (run_of c.loop.session c.loop.terms)
    c.loop.invariant.0 c.in_err-message.ensures.read

pub returns-in_err-served-clause-done : goal.returns-in_err-served-clause-done
returns-in_err-served-clause-done g c =
    let left = g.R.Read.remaining in
    serves_answer g.M.RecordedMachine.stands (g.F.FileFinder.leads c.args.files.now) (setup_of c.args.launch.now) left (unread left c.args.self.now) c.loop.self c.next_value.new.self c.answer.new.self (setup_by c.in-Some.asked) (view c.in_ok-message.message)
    (run_of c.args.session.now c.args.terms.now) (run_of c.loop.session c.loop.terms) (run_of c.answer.new.session c.answer.new.terms) c.loop.invariant.0 c.in_ok-message.ensures.read c.in-Some.ensures.setup c.answer.ensures.done c.answer.ensures.messages

pub returns-in-Some-2-clause-done : goal.returns-in-Some-2-clause-done
returns-in-Some-2-clause-done g c =
    let left = g.R.Read.remaining in
    serves_answer g.M.RecordedMachine.stands (g.F.FileFinder.leads c.args.files.now) (setup_of c.args.launch.now) left (unread left c.args.self.now) c.loop.self c.next_value.new.self c.answer.new.self (setup_by c.in-Some.asked) (view c.in_ok-message.message)
    (run_of c.args.session.now c.args.terms.now) (run_of c.loop.session c.loop.terms) (run_of c.answer.new.session c.answer.new.terms) c.loop.invariant.0 c.in_ok-message.ensures.read c.in-Some.ensures.setup c.answer.ensures.done c.answer.ensures.messages

pub loop-preserved : goal.loop-preserved
loop-preserved g c =
    let left = g.R.Read.remaining in
    let stands = g.M.RecordedMachine.stands in
    let leads = g.F.FileFinder.leads c.args.files.now in (
      serves_answer stands leads (setup_of c.args.launch.now) left (unread left c.args.self.now) c.loop.self c.next_value.new.self c.answer.new.self (setup_by c.in-Some.asked) (view c.in_ok-message.message)
          (run_of c.args.session.now c.args.terms.now) (run_of c.loop.session c.loop.terms) (run_of c.answer.new.session c.answer.new.terms) c.loop.invariant.0 c.in_ok-message.ensures.read c.in-Some.ensures.setup c.answer.ensures.done c.answer.ensures.messages,
      hears_more stands leads g.O.Write.contents (setup_of c.args.launch.now) left c.args.self.now c.loop.self c.next_value.new.self c.answer.new.self (setup_by c.in-Some.asked) _ (view c.in_ok-message.message)
          (run_of c.args.session.now c.args.terms.now) (run_of c.loop.session c.loop.terms) (run_of c.answer.new.session c.answer.new.terms) c.loop.invariant.1 (record { said = c.in_ok-message.ensures.said; read = c.in_ok-message.ensures.read }) c.in-Some.ensures.setup c.in_default-2.is c.in_ok-served.ensures.told,
    )

pub returns-in-Some-2-clause-told : goal.returns-in-Some-2-clause-told
returns-in-Some-2-clause-told g c =
    let left = g.R.Read.remaining in
    let stands = g.M.RecordedMachine.stands in
    let leads = g.F.FileFinder.leads c.args.files.now in
    hears_until stands leads g.O.Write.contents (setup_of c.args.launch.now) left c.args.self.now c.loop.self c.next_value.new.self c.answer.new.self (setup_by c.in-Some.asked) _ c.in-Some-2.served (view c.in_ok-message.message)
    (run_of c.args.session.now c.args.terms.now) (run_of c.loop.session c.loop.terms) (run_of c.answer.new.session c.answer.new.terms) c.loop.invariant.1 (record { said = c.in_ok-message.ensures.said; read = c.in_ok-message.ensures.read }) c.in-Some.ensures.setup c.in-Some-2.is c.in_ok-served.ensures.told
