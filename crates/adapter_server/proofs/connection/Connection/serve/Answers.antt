use Rattle.std.proofs.Common.{◌∙◌, [], subst}
use Rattle.adapter_frames.specs.Reading as frames
use Rattle.adapter_requests.specs.declared.reply.Reply.TheVariants.{Done}
use Rattle.adapter_server.specs.Hearing.{HearsLaunch, HearsUntil, head_in}
use Rattle.adapter_server.specs.Serving.{Serves, run_of, setup_of, unread}
use Rattle.adapter_server.proofs.ServedRequests.{if_ok_then}
use Rattle.adapter_server.proofs.ToldEvents.{replied_by}
use Rattle.adapter_server.proofs.connection.Connection.serve.Goals as goal

pub returns-clause-done : goal.returns-clause-done
returns-clause-done g c =
    let left = g.R.Read.remaining in
    subst (λ messages. Serves g.M.RecordedMachine.stands (g.F.FileFinder.leads c.args.files.now) (setup_of c.args.launch.now) (frames.unread left messages) (unread left c.go_on.new.self) (run_of c.args.session.now c.args.terms.now) (run_of c.go_on.new.session c.go_on.new.terms))
    (c.tell.ensures.messages ∙ c.reply.ensures.messages) c.go_on.ensures.done

pub returns-clause-told : goal.returns-clause-told
returns-clause-told g c =
    let stands = g.M.RecordedMachine.stands in
    let leads = g.F.FileFinder.leads c.args.files.now in
    let left = g.R.Read.remaining in
    let contents = g.O.Write.contents in
    let launch = c.args.launch.now in
    let old = run_of c.args.session.now c.args.terms.now in
    let new = run_of c.go_on.new.session c.go_on.new.terms in
    if_ok_then c.go_on.result (λ served. HearsUntil stands leads left contents (setup_of launch) served c.tell.new.self c.go_on.new.self old new)
    (λ served. HearsLaunch stands leads left contents launch (setup_of launch) served c.args.self.now c.go_on.new.self old new) c.go_on.ensures.told
    (λ served hears. record {
      replied = c.reply.new.self;
      initialized = c.tell.new.self;
      reply = replied_by contents c.args.self.now c.reply.new.self [] Done _ _ (head_in launch) c.head.ensures.number c.head.ensures.command c.in_ok-reply.ensures.sent;
      sent = c.in_ok-tell.ensures.sent;
      stopped = c.tell.ensures.stopped ∙ c.in_ok-reply.ensures.sent.stopped;
      opened = c.tell.ensures.opened ∙ c.reply.ensures.opened;
      hears = hears;
    })
