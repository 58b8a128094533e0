use Rattle.std.proofs.Common.{◌∙◌, [], ap, codes, inl, inr, refl, subst}
use Rattle.adapter_frames.specs.Reading as frames
use Rattle.adapter_requests.specs.declared.reply.Reply.TheVariants.{Done}
use Rattle.opened_texts.specs.Texts.{texts_of}
use Rattle.adapter_server.specs.Hearing.{HearsRestart, HearsUntil}
use Rattle.adapter_server.specs.Serving.{Begins, Serves, messages_of, run_of, setup_of, unread}
use Rattle.adapter_server.specs.Telling.{TellsBeginning}
use Rattle.adapter_server.proofs.ReadMessages.{lets_nothing_go, serves_nothing, told}
use Rattle.adapter_server.proofs.ServedRequests.{if_ok_then}
use Rattle.adapter_server.proofs.ToldEvents.{replied_by, replied_same}
use Rattle.adapter_server.proofs.connection.Connection.restart.Goals as goal

pub returns-in_err-reply-clause-done : goal.returns-in_err-reply-clause-done
returns-in_err-reply-clause-done g c =
    let left = g.R.Read.remaining in
    let start = unread left c.args.self.now in
    let made = run_of c.restore_stops.new.session c.restore_stops.new.terms in
    record {
      restored = made;
      begun = made;
      restores = record { done = c.restore_stops.ensures.done; terms = c.restore_stops.ensures.terms; keep_numbers = c.restore_stops.ensures.numbers };
      begins = inl refl;
      serves = serves_nothing g.M.RecordedMachine.stands (g.F.FileFinder.leads c.args.files.now) (setup_of c.args.launch.now) start (unread left c.reply.new.self) made (told left start (messages_of c.args.self.now) c.reply.new.self c.reply.ensures.messages (lets_nothing_go start));
    }

pub returns-in_default-clause-done : goal.returns-in_default-clause-done
returns-in_default-clause-done g c =
    let left = g.R.Read.remaining in
    let start = unread left c.args.self.now in
    let made = run_of c.restore_stops.new.session c.restore_stops.new.terms in
    record {
      restored = made;
      begun = made;
      restores = record { done = c.restore_stops.ensures.done; terms = c.restore_stops.ensures.terms; keep_numbers = c.restore_stops.ensures.numbers };
      begins = inl refl;
      serves = serves_nothing g.M.RecordedMachine.stands (g.F.FileFinder.leads c.args.files.now) (setup_of c.args.launch.now) start (unread left c.reply.new.self) made (told left start (messages_of c.args.self.now) c.reply.new.self c.reply.ensures.messages (lets_nothing_go start));
    }

pub returns-in_err-begin-clause-done : goal.returns-in_err-begin-clause-done
returns-in_err-begin-clause-done g c =
    let left = g.R.Read.remaining in
    let start = unread left c.args.self.now in
    let made = run_of c.restore_stops.new.session c.restore_stops.new.terms in
    let begun = run_of c.begin.new.session c.begin.new.terms in
    record {
      restored = made;
      begun = begun;
      restores = record { done = c.restore_stops.ensures.done; terms = c.restore_stops.ensures.terms; keep_numbers = c.restore_stops.ensures.numbers };
      begins = inr (subst (λ setup. Begins g.M.RecordedMachine.stands setup made begun) c.in-Some.ensures.setup c.begin.ensures.done);
      serves = serves_nothing g.M.RecordedMachine.stands (g.F.FileFinder.leads c.args.files.now) (setup_of c.args.launch.now) start (unread left c.begin.new.self) begun (told left start (messages_of c.args.self.now) c.begin.new.self (c.begin.ensures.messages ∙ c.reply.ensures.messages) (lets_nothing_go start));
    }

pub returns-clause-done : goal.returns-clause-done
returns-clause-done g c =
    let left = g.R.Read.remaining in
    let made = run_of c.restore_stops.new.session c.restore_stops.new.terms in
    let begun = run_of c.begin.new.session c.begin.new.terms in
    record {
      restored = made;
      begun = begun;
      restores = record { done = c.restore_stops.ensures.done; terms = c.restore_stops.ensures.terms; keep_numbers = c.restore_stops.ensures.numbers };
      begins = inr (subst (λ setup. Begins g.M.RecordedMachine.stands setup made begun) c.in-Some.ensures.setup c.begin.ensures.done);
      serves = subst (λ messages. Serves g.M.RecordedMachine.stands (g.F.FileFinder.leads c.args.files.now) (setup_of c.args.launch.now) (frames.unread left messages) (unread left c.go_on.new.self) begun (run_of c.go_on.new.session c.go_on.new.terms)) (c.begin.ensures.messages ∙ c.reply.ensures.messages) c.go_on.ensures.done;
    }

pub returns-clause-told : goal.returns-clause-told
returns-clause-told g c =
    let stands = g.M.RecordedMachine.stands in
    let leads = g.F.FileFinder.leads c.args.files.now in
    let left = g.R.Read.remaining in
    let contents = g.O.Write.contents in
    let setup = setup_of c.args.launch.now in
    let made = run_of c.restore_stops.new.session c.restore_stops.new.terms in
    let begun = run_of c.begin.new.session c.begin.new.terms in
    let old = run_of c.args.session.now c.args.terms.now in
    let new = run_of c.go_on.new.session c.go_on.new.terms in
    if_ok_then c.go_on.result (λ served. HearsUntil stands leads left contents setup served c.begin.new.self c.go_on.new.self begun new)
    (λ served. HearsRestart stands leads left contents setup c.args.old.now served c.args.self.now c.go_on.new.self old new) c.go_on.ensures.told
    (λ served hears. record {
      replied = c.reply.new.self;
      told = c.begin.new.self;
      restored = made;
      begun = begun;
      restores = record { done = c.restore_stops.ensures.done; terms = c.restore_stops.ensures.terms; keep_numbers = c.restore_stops.ensures.numbers };
      reply = replied_same contents c.args.self.now c.reply.new.self c.clear.new.self _
          (replied_by contents _ c.reply.new.self [] Done _ _ (c.args.self.now.restart, codes "restart") c.restarting.ensures.number c.restarting.ensures.command c.in_ok-reply.ensures.sent);
      opened = ap texts_of c.reply.ensures.opened ∙ c.clear.ensures;
      begins = subst (λ setup. TellsBeginning stands contents setup.threads setup.program setup.stops_on_entry c.reply.new.self c.begin.new.self made begun) c.in-Some.ensures.setup c.in_ok-begin.ensures.told;
      hears = hears;
    })
