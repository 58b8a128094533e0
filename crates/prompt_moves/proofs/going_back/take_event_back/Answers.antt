use Rattle.std.proofs.Common.{◌≡◌, ◌<◌, true, false, refl, sym, subst, ap, ◌∙◌, arith}
use Rattle.gang_model.specs.Debugger.Debugger.{DoUndo, Reply, undone}
use Rattle.debug_session.specs.Sessions.{StandsFor}
use Rattle.prompt_moves.proofs.DoneCommands.{sure_reply}
use Rattle.prompt_moves.proofs.StepsBack.{is_undone_step, is_undone_step-means, some_kept, undo_is, undone_poke, undone_step}
use Rattle.prompt_moves.proofs.going_back.take_event_back.Goals as goal

pub returns-then-is_undone_step : goal.returns-then-is_undone_step
returns-then-is_undone_step g c s d st few =
    let some : 0 < c.args.left = c.requires in
    let kept = some_kept d (omega (arith, some, few)) in
    let replies = c.do_command-answer.ensures.replied s d st in
    let is = sure_reply g.M.RecordedMachine.may_want s DoUndo d replies.reply refl replies.is_reply ∙ undo_is s d kept in
    let told : is_undone_step (undone d.events) ≡ true =
    sym (is_undone_step-means s replies.reply.next c.do_command-answer.result replies.reply.answer replies.replied.means ∙ ap (λ (r : Reply). is_undone_step r.answer) is) ∙ sym c.is_undone_step.ensures ∙ c.if-is_undone_step.true in
    let there = subst (λ (r : Reply). StandsFor g.M.RecordedMachine.stands c.do_command-answer.new.self s r.next) is replies.replied.there in
    let (same, more) = undone_step s c.args.left d some few told in
    (there, same, more)

pub returns : goal.returns
returns g c s d st few =
    let some : 0 < c.args.left = c.requires in
    let kept = some_kept d (omega (arith, some, few)) in
    let replies = c.do_command-answer.ensures.replied s d st in
    let is = sure_reply g.M.RecordedMachine.may_want s DoUndo d replies.reply refl replies.is_reply ∙ undo_is s d kept in
    let told : is_undone_step (undone d.events) ≡ false =
    sym (is_undone_step-means s replies.reply.next c.do_command-answer.result replies.reply.answer replies.replied.means ∙ ap (λ (r : Reply). is_undone_step r.answer) is) ∙ sym c.is_undone_step.ensures ∙ c.if-is_undone_step.false in
    let there = subst (λ (r : Reply). StandsFor g.M.RecordedMachine.stands c.do_command-answer.new.self s r.next) is replies.replied.there in
    let (same, more) = undone_poke s c.args.left d some few told in
    (there, same, more)
