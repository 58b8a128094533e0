use Rattle.std.proofs.Common.{◌≡◌, Some, ◌∷◌, refl, subst, ap, ◌∙◌}
use Rattle.gang_model.specs.Debugger.Debugger.{DoContinue, DoDelete, Reply, do_command}
use Rattle.command_lists.specs.Lists.{HasDone}
use Rattle.prompt_scenes.specs.Holding.{held}
use Rattle.prompt_moves.specs.Following.{begun, follows}
use Rattle.prompt_moves.proofs.AnswersFollow.{begun-means, follows-means}
use Rattle.prompt_moves.proofs.DoneCommands.{one_then, sure_reply}
use Rattle.prompt_moves.proofs.MomentLaws.{led_one, one_led}
use Rattle.prompt_moves.specs.GivenMoves as given_moves
use Rattle.prompt_going.proofs.doing.go_to_stop.Goals as goal

pub returns : goal.returns
returns g c s d st limit =
    let stands = g.M.RecordedMachine.stands in
    let may_want = g.M.RecordedMachine.may_want in
    let h = held c.args.holding.now in
    let delete = DoDelete (Some c.args.number) in
    let r = do_command s DoContinue d in
    let told = c.go_on-answer.result in
    let went = c.go_on-answer.ensures s d st limit in
    let is = sure_reply may_want s DoContinue d went.reply refl went.is_reply in
    let middle = led_one stands s may_want DoContinue d told c.go_on-answer.new.session went is in
    let deleted = c.do_command.ensures.replied s r.next middle in
    let new = c.follow.new.session in
    let more : given_moves.follows h told ≡ follows h r.answer = follows-means s went.reply.next h told went.reply.answer went.replied.means ∙ ap (λ (r : Reply). follows h r.answer) is in
    let holds : given_moves.begun h told ≡ begun h r.answer = begun-means s went.reply.next h told went.reply.answer went.replied.means ∙ ap (λ (r : Reply). begun h r.answer) is in (
      one_led stands s DoContinue (delete ∷ follows h r.answer) d new
          (subst (λ cs. HasDone stands s (delete ∷ cs) r.next new) more
          (one_then stands s r.next may_want delete (given_moves.follows h told) c.do_command.result c.do_command.new.self new deleted (λ e there. c.follow.ensures.done s e there))),
      c.follow.ensures.begun ∙ holds,
    )
