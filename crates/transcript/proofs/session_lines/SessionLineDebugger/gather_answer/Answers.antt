use Rattle.std.proofs.Common.{rules, ◌≡◌, false, ap, sym, refl}
use Rattle.gang_model.specs.Texts.Transcript.{is_quit}
use Rattle.debug_commands.specs.Views.{command_view}
use Rattle.transcript.specs.Lines.{quits}
use Rattle.transcript.proofs.SessionLines.{adds_bad, adds_replies}
use Rattle.transcript.proofs.session_lines.SessionLineDebugger.gather_answer.Goals as goal

pub returns-in-Some : goal.returns-in-Some
returns-in-Some g c =
    let goes : quits c.args.line.now ≡ false = search rules in
    record {
      said = λ s d st.
          adds_replies g.M.RecordedMachine.stands s d c.args.line.now c.do_command-answer.new.self _ _ _ _ goes g.M.RecordedMachine.may_want g.met.M.PokesSurely.pokes_surely (command_view c.in-Some.command) c.do_command-answer.result
          c.in-Some.ensures (c.do_command-answer.ensures.replied s d st) c.gather.result (λ r st means. c.gather.ensures.said s r.next r.answer st means);
      failed = c.gather.ensures.failed;
      room = c.gather.ensures.room;
    }

pub returns-in-None-clause-said : goal.returns-in-None-clause-said
returns-in-None-clause-said g c s d st =
    let goes : quits c.args.line.now ≡ false = ap is_quit (sym c.in-None.ensures) in
    adds_bad g.M.RecordedMachine.stands s d c.args.line.now c.args.self.now _ _ _ _ goes c.in-None.ensures st c.gather-in-None.result (c.gather-in-None.ensures.said s d _ st refl)
