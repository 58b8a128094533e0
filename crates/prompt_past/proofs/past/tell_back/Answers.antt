use Rattle.std.proofs.Common.{◌≡◌, ◌<◌, ◌≤◌, true, false, refl, sym, subst, ap, ◌∙◌, arith}
use Rattle.gang_model.specs.Debugger.Debugger.{DoReverseContinue, Reply, do_command}
use Rattle.debug_session.specs.Sessions.{StandsFor}
use Rattle.prompt_scenes.specs.Readings.{is_stop}
use Rattle.prompt_scenes.proofs.AnswersMean.{is_stop-means}
use Rattle.prompt_moves.proofs.DoneCommands.{sure_reply}
use Rattle.prompt_moves.proofs.MomentLaws.{led_last_stop, led_no_stop, led_stop, moved_there}
use Rattle.prompt_past.proofs.past.tell_back.Goals as goal

pub loop-left-init : goal.loop-left-init
loop-left-init g c s d st = (d, st, refl)

pub loop-left-preserved : goal.loop-left-preserved
loop-left-preserved g c s d st =
    let may_want = g.M.RecordedMachine.may_want in
    let (e, there, same) = c.loop-left.invariant s d st in
    let some : 0 < c.loop-left.left = omega (arith, c.loop-left-test.true) in
    let replies = c.do_command-answer.ensures.replied s e there in
    let is = sure_reply may_want s DoReverseContinue e replies.reply refl replies.is_reply in
    let here : is_stop (do_command s DoReverseContinue e).answer ≡ true =
    sym (is_stop-means s replies.reply.next c.do_command-answer.result replies.reply.answer replies.replied.means ∙ ap (λ (r : Reply). is_stop r.answer) is) ∙ sym c.is_stop.ensures ∙ c.if-not-is_stop.false in (
      (do_command s DoReverseContinue e).next,
      moved_there g.M.RecordedMachine.stands s may_want DoReverseContinue e c.do_command-answer.result c.do_command-answer.new.self refl replies,
      same ∙ led_stop s c.loop-left.left e some here,
    )

pub returns-then-not-is_stop : goal.returns-then-not-is_stop
returns-then-not-is_stop g c s d st =
    let may_want = g.M.RecordedMachine.may_want in
    let (e, there, same) = c.loop-left.invariant s d st in
    let some : 0 < c.loop-left.left = omega (arith, c.loop-left-test.true) in
    let replies = c.do_command-answer.ensures.replied s e there in
    let is = sure_reply may_want s DoReverseContinue e replies.reply refl replies.is_reply in
    let here : is_stop (do_command s DoReverseContinue e).answer ≡ false =
    sym (is_stop-means s replies.reply.next c.do_command-answer.result replies.reply.answer replies.replied.means ∙ ap (λ (r : Reply). is_stop r.answer) is) ∙ sym c.is_stop.ensures ∙ c.if-not-is_stop.true in
    subst (StandsFor g.M.RecordedMachine.stands c.do_command-answer.new.self s) (sym (same ∙ led_last_stop s c.loop-left.left e some here))
    (moved_there g.M.RecordedMachine.stands s may_want DoReverseContinue e c.do_command-answer.result c.do_command-answer.new.self refl replies)

pub returns : goal.returns
returns g c s d st =
    let (e, there, same) = c.loop-left.invariant s d st in
    let none : c.loop-left.left ≤ 0 = omega (arith, c.loop-left-test.false) in
    subst (StandsFor g.M.RecordedMachine.stands c.loop-left.session s) (sym (same ∙ led_no_stop s c.loop-left.left e none)) there
