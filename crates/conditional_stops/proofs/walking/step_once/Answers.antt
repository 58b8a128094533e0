use Rattle.std.proofs.Common.{◌≡◌, sym, subst, ap, ◌∙◌, refl, inl, inr, true, false}
use Rattle.std.specs.Prelude.{OnOk}
use Rattle.gang_model.specs.Debugger.Debugger.{do_command, now}
use Rattle.debug_session.specs.Moves.{watch_words}
use Rattle.debug_session.specs.Sessions.{RepliesTo}
use Rattle.conditional_stops.specs.Noted.{HaveCodes, IsNoted}
use Rattle.conditional_stops.specs.Views.{table_of}
use Rattle.conditional_stops.specs.Walking.{is_here, step_of}
use Rattle.conditional_stops.proofs.Steps.{here_told, step_ended, step_stops, stepped}
use Rattle.conditional_stops.proofs.Watched.{watched_on}
use Rattle.conditional_stops.proofs.walking.step_once.Goals as goal

pub returns-then-not-is_here-clause-step : goal.returns-then-not-is_here-clause-step
returns-then-not-is_here-clause-step g c s d st watched =
    let stands = g.M.RecordedMachine.stands in
    let may_want = g.M.RecordedMachine.may_want in
    let way = c.args.direction in
    let watches = c.args.watches.now in
    let new = c.do_command-answer.new.self in
    let given = c.do_command-answer.result in
    let next = (do_command s (step_of way) d).next in
    let (there, means) =
    stepped stands s way watches may_want d given new (subst (λ command. RepliesTo may_want stands s command d given new) c.step.ensures (c.do_command-answer.ensures.replied s d st)) in
    let other : is_here (do_command s (step_of way) d).answer ≡ false = sym (here_told s next given (do_command s (step_of way) d).answer means) ∙ sym c.is_here.ensures ∙ c.if-not-is_here.true in
    (there, inl (other, means, refl))

pub returns-in-Ok : goal.returns-in-Ok
returns-in-Ok g c =
    let stands = g.M.RecordedMachine.stands in
    let may_want = g.M.RecordedMachine.may_want in
    let way = c.args.direction in
    let watches = c.args.watches.now in
    let new = c.do_command-answer.new.self in
    let given = c.do_command-answer.result in
    let here = c.note.new.noted in
    let codes = c.note.new.codes.items in
    record {
      step = λ s d st watched.
          let next = (do_command s (step_of way) d).next in
          let (there, means) =
          stepped stands s way watches may_want d given new (subst (λ command. RepliesTo may_want stands s command d given new) c.step.ensures (c.do_command-answer.ensures.replied s d st)) in
          let made : is_here (do_command s (step_of way) d).answer ≡ true = sym (here_told s next given (do_command s (step_of way) d).answer means) ∙ sym c.is_here.ensures ∙ c.if-not-is_here.false in
          let noted = subst (λ r. OnOk r (IsNoted s next watches here × HaveCodes s.program watches codes)) c.in-Ok.is (c.note.ensures s next there watched.1) in
          step_ended stands s way watches d (table_of c.args.conditions.now) (table_of c.end_noted.new.conditions) c.end_noted.result new there made
          (c.end_noted.ensures.end s d next there (watched.0.0 ∙ ap (watch_words (now s d)) (sym (step_stops way s d))) watched.0.1 noted.0);
      watched = λ s d st watched.
          let next = (do_command s (step_of way) d).next in
          let (there, means) =
          stepped stands s way watches may_want d given new (subst (λ command. RepliesTo may_want stands s command d given new) c.step.ensures (c.do_command-answer.ensures.replied s d st)) in
          let noted = subst (λ r. OnOk r (IsNoted s next watches here × HaveCodes s.program watches codes)) c.in-Ok.is (c.note.ensures s next there watched.1) in
          watched_on s next watches c.end_noted.result c.end_noted.new.watched (c.end_noted.ensures.watched s next noted.0 noted.1);
    }

pub returns-in-Err-clause-step : goal.returns-in-Err-clause-step
returns-in-Err-clause-step g c s d st watched =
    let stands = g.M.RecordedMachine.stands in
    let may_want = g.M.RecordedMachine.may_want in
    let way = c.args.direction in
    let watches = c.args.watches.now in
    let new = c.do_command-answer.new.self in
    let given = c.do_command-answer.result in
    let next = (do_command s (step_of way) d).next in
    let (there, means) =
    stepped stands s way watches may_want d given new (subst (λ command. RepliesTo may_want stands s command d given new) c.step.ensures (c.do_command-answer.ensures.replied s d st)) in
    let made : is_here (do_command s (step_of way) d).answer ≡ true = sym (here_told s next given (do_command s (step_of way) d).answer means) ∙ sym c.is_here.ensures ∙ c.if-not-is_here.false in
    (there, inr (inr (made, refl, refl)))
