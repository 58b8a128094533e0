use Rattle.std.proofs.Common.{◌≡◌, None, Some, sym, subst, ap, ◌∙◌}
use Rattle.gang_model.specs.Debugger.Debugger.{DoWatch, Reply, do_command}
use Rattle.debug_commands.specs.Views.{target_view}
use Rattle.command_lists.specs.Lists.{HasDone}
use Rattle.command_lists.proofs.DoneLists.{done_nothing}
use Rattle.prompt_scenes.specs.Readings.{watch_number}
use Rattle.prompt_scenes.specs.Holding.{held}
use Rattle.prompt_scenes.proofs.AnswersMean.{watch_number-means}
use Rattle.prompt_moves.proofs.DoneCommands.{only_reply}
use Rattle.prompt_moves.proofs.MomentLaws.{led_one, one_led}
use Rattle.prompt_past.specs.Past.{after_sought, sought}
use Rattle.prompt_past.proofs.past.seek.Goals as goal

pub returns-in-Some : goal.returns-in-Some
returns-in-Some g c s d st =
    let stands = g.M.RecordedMachine.stands in
    let may_want = g.M.RecordedMachine.may_want in
    let h = held c.args.holding.now in
    let command = DoWatch (target_view c.args.target) in
    let made = do_command s command d in
    let new = c.seek_change.new.session in
    let replies = c.do_command-answer.ensures.replied s d st in
    let is = only_reply may_want s command d replies.reply (λ may. may) (λ sets. sets) replies.is_reply in
    let there = led_one stands s may_want command d c.do_command-answer.result c.do_command-answer.new.self replies is in
    let number : Some c.in-Some.number ≡ watch_number made.answer =
    sym c.in-Some.is ∙ c.watch_number.ensures ∙ watch_number-means s replies.reply.next c.do_command-answer.result replies.reply.answer replies.replied.means ∙ ap (λ (r : Reply). watch_number r.answer) is in
    let (done, holds) = c.seek_change.ensures s made.next there in (
      one_led stands s command (sought s h made.next (watch_number made.answer)) d new (subst (λ n. HasDone stands s (sought s h made.next n) made.next new) number done),
      holds ∙ ap (after_sought s h made.next) number,
    )

pub returns-in-None : goal.returns-in-None
returns-in-None g c s d st =
    let stands = g.M.RecordedMachine.stands in
    let may_want = g.M.RecordedMachine.may_want in
    let h = held c.args.holding.now in
    let command = DoWatch (target_view c.args.target) in
    let made = do_command s command d in
    let new = c.do_command-answer.new.self in
    let replies = c.do_command-answer.ensures.replied s d st in
    let is = only_reply may_want s command d replies.reply (λ may. may) (λ sets. sets) replies.is_reply in
    let there = led_one stands s may_want command d c.do_command-answer.result new replies is in
    let number : None ≡ watch_number made.answer =
    sym c.in-None.is ∙ c.watch_number.ensures ∙ watch_number-means s replies.reply.next c.do_command-answer.result replies.reply.answer replies.replied.means ∙ ap (λ (r : Reply). watch_number r.answer) is in (
      one_led stands s command (sought s h made.next (watch_number made.answer)) d new
          (subst (λ n. HasDone stands s (sought s h made.next n) made.next new) number (done_nothing stands s made.next new there)),
      ap (after_sought s h made.next) number,
    )
