use Rattle.std.proofs.Common.{◌≡◌, ◌<◌, ◌≤◌, true, false, refl, sym, subst, ap, ◌∙◌, arith}
use Rattle.gang_model.specs.Debugger.Debugger.{DoStep, Reply, do_command}
use Rattle.debug_session.specs.Sessions.{StandsFor}
use Rattle.prompt_scenes.specs.Readings.{is_here}
use Rattle.prompt_scenes.proofs.AnswersMean.{is_here-means}
use Rattle.prompt_moves.proofs.DoneCommands.{sure_reply}
use Rattle.prompt_moves.proofs.MomentLaws.{led_last_step, led_no_step, led_step, moved_there}
use Rattle.prompt_walks.proofs.asking.ask_on.Goals as goal

pub loop-left-init : goal.loop-left-init
loop-left-init g c s d st = (d, st, refl)

pub loop-left-preserved : goal.loop-left-preserved
loop-left-preserved g c s d st =
    let may_want = g.M.RecordedMachine.may_want in
    let (e, there, same) = c.loop-left.invariant s d st in
    let some : 0 < c.loop-left.left = omega (arith, c.loop-left-test.true) in
    let replies = c.do_command-answer.ensures.replied s e there in
    let is = sure_reply may_want s (DoStep 1) e replies.reply refl replies.is_reply in
    let here : is_here (do_command s (DoStep 1) e).answer ≡ true =
    sym (is_here-means s replies.reply.next c.do_command-answer.result replies.reply.answer replies.replied.means ∙ ap (λ (r : Reply). is_here r.answer) is) ∙ sym c.is_here.ensures ∙ c.if-not-is_here.false in (
      (do_command s (DoStep 1) e).next,
      moved_there g.M.RecordedMachine.stands s may_want (DoStep 1) e c.do_command-answer.result c.do_command-answer.new.self refl replies,
      same ∙ led_step s c.loop-left.left e some here,
    )

pub returns-then-not-is_here : goal.returns-then-not-is_here
returns-then-not-is_here g c s d st =
    let may_want = g.M.RecordedMachine.may_want in
    let (e, there, same) = c.loop-left.invariant s d st in
    let some : 0 < c.loop-left.left = omega (arith, c.loop-left-test.true) in
    let replies = c.do_command-answer.ensures.replied s e there in
    let is = sure_reply may_want s (DoStep 1) e replies.reply refl replies.is_reply in
    let here : is_here (do_command s (DoStep 1) e).answer ≡ false =
    sym (is_here-means s replies.reply.next c.do_command-answer.result replies.reply.answer replies.replied.means ∙ ap (λ (r : Reply). is_here r.answer) is) ∙ sym c.is_here.ensures ∙ c.if-not-is_here.true in
    subst (StandsFor g.M.RecordedMachine.stands c.do_command-answer.new.self s) (sym (same ∙ led_last_step s c.loop-left.left e some here))
    (moved_there g.M.RecordedMachine.stands s may_want (DoStep 1) e c.do_command-answer.result c.do_command-answer.new.self refl replies)

pub returns : goal.returns
returns g c s d st =
    let (e, there, same) = c.loop-left.invariant s d st in
    let none : c.loop-left.left ≤ 0 = omega (arith, c.loop-left-test.false) in
    subst (StandsFor g.M.RecordedMachine.stands c.loop-left.session s) (sym (same ∙ led_no_step s c.loop-left.left e none)) there
