use Rattle.std.proofs.Common.{◌∙◌, ap, inl, inr, refl}
use Rattle.debug_session.specs.Sessions.{bare}
use Rattle.opened_texts.specs.Texts.{texts_of}
use Rattle.adapter_server.specs.Serving.{run_of, setup_by}
use Rattle.adapter_server.specs.Threads.{threads_of}
use Rattle.adapter_server.proofs.ServedRequests.{follows_asking, follows_beginning}
use Rattle.adapter_server.proofs.ToldEvents.{opens_same, replied_same, sent_same}
use Rattle.adapter_server.proofs.connection.Connection.do_request.Goals as goal

pub returns-in_err-begin-in-ConfigurationDone-clause-done : goal.returns-in_err-begin-in-ConfigurationDone-clause-done
returns-in_err-begin-in-ConfigurationDone-clause-done g c =
    follows_beginning g.M.RecordedMachine.stands (g.F.FileFinder.leads c.args.files.now) (setup_by c.args.launch.now) c.args.request.now c.in_ok-path.path.now (run_of c.args.session.now c.args.terms.now) (run_of c.ask.new.session c.ask.new.terms) (run_of c.begin.new.session c.begin.new.terms)
    c.ask.result c.in_ok-answered.answered c.in-ConfigurationDone.is c.in_ok-answered.was c.in_ok-path.ensures c.ask.ensures.asked c.begin.ensures.done

pub returns-in-ConfigurationDone-clause-done : goal.returns-in-ConfigurationDone-clause-done
returns-in-ConfigurationDone-clause-done g c =
    follows_beginning g.M.RecordedMachine.stands (g.F.FileFinder.leads c.args.files.now) (setup_by c.args.launch.now) c.args.request.now c.in_ok-path.path.now (run_of c.args.session.now c.args.terms.now) (run_of c.ask.new.session c.ask.new.terms) (run_of c.begin.new.session c.begin.new.terms)
    c.ask.result c.in_ok-answered.answered c.in-ConfigurationDone.is c.in_ok-answered.was c.in_ok-path.ensures c.ask.ensures.asked c.begin.ensures.done

pub returns-in-ConfigurationDone-clause-told : goal.returns-in-ConfigurationDone-clause-told
returns-in-ConfigurationDone-clause-told g c =
    inr (inr (record {
      replied = c.reply-2.new.self;
      told = c.tell_of.new.self;
      middle = run_of c.ask.new.session c.ask.new.terms;
      path = c.in_ok-path.path.now;
      is_path = c.in_ok-path.ensures;
      one = record {
        answered = c.in_ok-answered.answered;
        does = c.in_ok-answered.ensures.done;
        sends = sent_same g.M.RecordedMachine.stands g.O.Write.contents (threads_of c.args.launch.now) c.in_ok-path.path.now c.args.request.now c.reply-2.new.self c.tell_of.new.self
            (run_of c.ask.new.session c.ask.new.terms) c.open_answer-told.result c.in_ok-answered.answered (λ s d. c.open_answer-told.ensures.events (threads_of c.args.launch.now) c.reply-2.new.self.hears_changes s d c.reply-2.new.self.stopped) c.in_ok-tell_of.ensures.told;
      };
      given = c.open_answer-told.result.reply;
      opens = λ s d there. opens_same s (bare d) c.args.request.now c.in_ok-answered.answered.reply c.open_answer-told.result.reply (texts_of c.args.self.now.opened) (texts_of c.open_answer-told.new.texts) (texts_of c.reply-2.new.self.opened)
          (ap texts_of c.reply-2.ensures.opened) (c.open_answer-told.ensures.reply s d there);
      reply = replied_same g.O.Write.contents c.args.self.now c.reply-2.new.self c.open_answer-told.new.texts _ c.in_ok-reply-3.ensures.sent;
      begins = inr (c.in-ConfigurationDone.is, c.in_ok-begin-in-ConfigurationDone.ensures.told);
    }))

pub returns-in-ConfigurationDone-clause-messages : goal.returns-in-ConfigurationDone-clause-messages
returns-in-ConfigurationDone-clause-messages g c = c.begin.ensures.messages ∙ c.tell_of.ensures.messages ∙ c.reply-2.ensures.messages

pub returns-in_err-reply-3-clause-done : goal.returns-in_err-reply-3-clause-done
returns-in_err-reply-3-clause-done g c =
    follows_asking g.M.RecordedMachine.stands (g.F.FileFinder.leads c.args.files.now) (setup_by c.args.launch.now) c.args.request.now c.in_ok-path.path.now (run_of c.args.session.now c.args.terms.now) (run_of c.ask.new.session c.ask.new.terms) c.ask.result c.in_ok-path.ensures c.ask.ensures.asked

pub returns-in_err-reply-3-clause-messages : goal.returns-in_err-reply-3-clause-messages
returns-in_err-reply-3-clause-messages g c = c.reply-2.ensures.messages

pub returns-in_err-tell_of-clause-done : goal.returns-in_err-tell_of-clause-done
returns-in_err-tell_of-clause-done g c =
    follows_asking g.M.RecordedMachine.stands (g.F.FileFinder.leads c.args.files.now) (setup_by c.args.launch.now) c.args.request.now c.in_ok-path.path.now (run_of c.args.session.now c.args.terms.now) (run_of c.ask.new.session c.ask.new.terms) c.ask.result c.in_ok-path.ensures c.ask.ensures.asked

pub returns-in_err-tell_of-clause-messages : goal.returns-in_err-tell_of-clause-messages
returns-in_err-tell_of-clause-messages g c = c.tell_of.ensures.messages ∙ c.reply-2.ensures.messages

pub returns-clause-done : goal.returns-clause-done
returns-clause-done g c =
    follows_asking g.M.RecordedMachine.stands (g.F.FileFinder.leads c.args.files.now) (setup_by c.args.launch.now) c.args.request.now c.in_ok-path.path.now (run_of c.args.session.now c.args.terms.now) (run_of c.ask.new.session c.ask.new.terms) c.ask.result c.in_ok-path.ensures c.ask.ensures.asked

pub returns-clause-told : goal.returns-clause-told
returns-clause-told g c =
    inr (inr (record {
      replied = c.reply-2.new.self;
      told = c.tell_of.new.self;
      middle = run_of c.ask.new.session c.ask.new.terms;
      path = c.in_ok-path.path.now;
      is_path = c.in_ok-path.ensures;
      one = record {
        answered = c.in_ok-answered.answered;
        does = c.in_ok-answered.ensures.done;
        sends = sent_same g.M.RecordedMachine.stands g.O.Write.contents (threads_of c.args.launch.now) c.in_ok-path.path.now c.args.request.now c.reply-2.new.self c.tell_of.new.self
            (run_of c.ask.new.session c.ask.new.terms) c.open_answer-told.result c.in_ok-answered.answered (λ s d. c.open_answer-told.ensures.events (threads_of c.args.launch.now) c.reply-2.new.self.hears_changes s d c.reply-2.new.self.stopped) c.in_ok-tell_of.ensures.told;
      };
      given = c.open_answer-told.result.reply;
      opens = λ s d there. opens_same s (bare d) c.args.request.now c.in_ok-answered.answered.reply c.open_answer-told.result.reply (texts_of c.args.self.now.opened) (texts_of c.open_answer-told.new.texts) (texts_of c.reply-2.new.self.opened)
          (ap texts_of c.reply-2.ensures.opened) (c.open_answer-told.ensures.reply s d there);
      reply = replied_same g.O.Write.contents c.args.self.now c.reply-2.new.self c.open_answer-told.new.texts _ c.in_ok-reply-3.ensures.sent;
      begins = inl (c.in_default-request.not-ConfigurationDone, refl, refl);
    }))

pub returns-clause-messages : goal.returns-clause-messages
returns-clause-messages g c = c.tell_of.ensures.messages ∙ c.reply-2.ensures.messages
