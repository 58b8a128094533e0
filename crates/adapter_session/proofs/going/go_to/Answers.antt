use Rattle.std.proofs.Common.{◌≡◌, ℕ, None, Option, Some, [], ◌∷◌, ap, subst, sym, ◌∙◌}
use Rattle.gang_model.specs.Debugger.Debugger.{DoBreak, Reply, do_command}
use Rattle.debug_session.specs.Sessions.{StandsFor}
use Rattle.command_lists.specs.Lists.{HasDone}
use Rattle.command_lists.proofs.DoneLists.{done_one, done_then}
use Rattle.adapter_session.specs.Answered.{IsToldAt}
use Rattle.adapter_session.specs.Going.{going, made_number, reply_from}
use Rattle.adapter_session.proofs.GoingTo.{number_means, one_reply}
use Rattle.adapter_session.proofs.going.go_to.Goals as goal

pub returns-in-Some-clause-done : goal.returns-in-Some-clause-done
returns-in-Some-clause-done g c s d there =
    let stands = g.M.RecordedMachine.stands in
    let may_want = g.M.RecordedMachine.may_want in
    let way = c.args.time.1 in
    let command = DoBreak c.args.time.0 in
    let middle = c.do_command-answer.new.self in
    let new = c.go_to_stop.new.session in
    let replies = c.do_command-answer.ensures.replied s d there in
    let is = one_reply may_want s command d replies.reply (λ may. may) (λ sets. sets) replies.is_reply in
    let number : Some c.in-Some.number ≡ made_number (do_command s command d).answer =
    sym c.in-Some.is ∙ c.made_number.ensures ∙ number_means s replies.reply.next c.do_command-answer.result replies.reply.answer replies.replied.means ∙ ap (λ (r : Reply). made_number r.answer) is in
    let first = done_one stands s may_want command d c.do_command-answer.result middle replies in
    subst (λ (n : Option ℕ). HasDone stands s (command ∷ going way n) d new) number
    (done_then stands s (command ∷ []) (going way (Some c.in-Some.number)) d middle new first (c.go_to_stop.ensures.done s first.after first.there))

pub returns-in-Some-clause-told : goal.returns-in-Some-clause-told
returns-in-Some-clause-told g c s d there =
    let stands = g.M.RecordedMachine.stands in
    let way = c.args.time.1 in
    let command = DoBreak c.args.time.0 in
    let made = do_command s command d in
    let middle = c.do_command-answer.new.self in
    let replies = c.do_command-answer.ensures.replied s d there in
    let is = one_reply g.M.RecordedMachine.may_want s command d replies.reply (λ may. may) (λ sets. sets) replies.is_reply in
    let number : Some c.in-Some.number ≡ made_number made.answer =
    sym c.in-Some.is ∙ c.made_number.ensures ∙ number_means s replies.reply.next c.do_command-answer.result replies.reply.answer replies.replied.means ∙ ap (λ (r : Reply). made_number r.answer) is in
    let stood = subst (λ (r : Reply). StandsFor stands middle s r.next) is replies.replied.there in
    subst (λ (n : Option ℕ). IsToldAt s c.args.program.now c.args.request.now c.go_to_stop.result n (reply_from s way made n)) number (c.go_to_stop.ensures.told s made.next stood)

pub returns-in-None-clause-done : goal.returns-in-None-clause-done
returns-in-None-clause-done g c s d there =
    let stands = g.M.RecordedMachine.stands in
    let may_want = g.M.RecordedMachine.may_want in
    let way = c.args.time.1 in
    let command = DoBreak c.args.time.0 in
    let middle = c.do_command-answer.new.self in
    let replies = c.do_command-answer.ensures.replied s d there in
    let is = one_reply may_want s command d replies.reply (λ may. may) (λ sets. sets) replies.is_reply in
    let number : None ≡ made_number (do_command s command d).answer =
    sym c.in-None.is ∙ c.made_number.ensures ∙ number_means s replies.reply.next c.do_command-answer.result replies.reply.answer replies.replied.means ∙ ap (λ (r : Reply). made_number r.answer) is in
    subst (λ (n : Option ℕ). HasDone stands s (command ∷ going way n) d middle) number (done_one stands s may_want command d c.do_command-answer.result middle replies)

pub returns-in-None-clause-told : goal.returns-in-None-clause-told
returns-in-None-clause-told g c s d there =
    let way = c.args.time.1 in
    let program = c.args.program.now in
    let request = c.args.request.now in
    let command = DoBreak c.args.time.0 in
    let made = do_command s command d in
    let replies = c.do_command-answer.ensures.replied s d there in
    let r = replies.reply in
    let means = replies.replied.means in
    let is = one_reply g.M.RecordedMachine.may_want s command d r (λ may. may) (λ sets. sets) replies.is_reply in
    let number : None ≡ made_number made.answer = sym c.in-None.is ∙ c.made_number.ensures ∙ number_means s r.next c.do_command-answer.result r.answer means ∙ ap (λ (r : Reply). made_number r.answer) is in
    subst (λ (n : Option ℕ). IsToldAt s program request c.told.result n (reply_from s way made n)) number
    (subst (λ (at : Reply). IsToldAt s program request c.told.result None at) is (record {
      given = c.do_command-answer.result;
      answers = means;
      meant = r.answer;
      means = means;
      tells = c.told.ensures s r.next r.answer replies.replied.there means;
    }))
