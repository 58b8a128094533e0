use Rattle.std.proofs.Common.{◌≡◌, Bool, true, false, Some, List, ◌∷◌, refl, sym, subst, ap, ◌∙◌}
use Rattle.std.specs.Prelude.{if◌then◌else◌}
use Rattle.gang_model.specs.Debugger.Debugger.{Command, DoDelete, DoReverseContinue, Reply, do_command, kept_steps}
use Rattle.debug_session.specs.Sessions.{StandsFor, bare}
use Rattle.command_lists.specs.Lists.{HasDone}
use Rattle.prompt_scenes.specs.Readings.{is_history_end}
use Rattle.prompt_scenes.specs.Holding.{held}
use Rattle.prompt_scenes.proofs.AnswersMean.{is_history_end-means}
use Rattle.prompt_moves.specs.Following.{begun, follows}
use Rattle.prompt_moves.specs.Moments.{led, steps_on}
use Rattle.prompt_moves.proofs.AnswersFollow.{begun-means, follows-means}
use Rattle.prompt_moves.proofs.DoneCommands.{sure_reply}
use Rattle.prompt_moves.proofs.MomentLaws.{done_led, led_one, one_led}
use Rattle.prompt_moves.specs.GivenMoves as given_moves
use Rattle.prompt_past.proofs.past.seek_change.Goals as goal

pub returns-then-is_history_end : goal.returns-then-is_history_end
returns-then-is_history_end g c s d st =
    let stands = g.M.RecordedMachine.stands in
    let may_want = g.M.RecordedMachine.may_want in
    let h = held c.args.holding.now in
    let delete = DoDelete (Some c.args.number) in
    let r = do_command s DoReverseContinue d in
    let e = (do_command s delete r.next).next in
    let told = c.do_command-answer.result in
    let back = c.do_command-answer.ensures.replied s d st in
    let is = sure_reply may_want s DoReverseContinue d back.reply refl back.is_reply in
    let middle = led_one stands s may_want DoReverseContinue d told c.do_command-answer.new.self back is in
    let there = c.unwatch.ensures s r.next middle in
    let same : c.is_history_end.result ≡ is_history_end r.answer =
    c.is_history_end.ensures ∙ is_history_end-means s back.reply.next told back.reply.answer back.replied.means ∙ ap (λ (r : Reply). is_history_end r.answer) is in
    let new = c.step_on.new.session in
    let yes : is_history_end r.answer ≡ true = sym same ∙ c.if-is_history_end.true in
    let count : c.kept_steps-steps.result ≡ kept_steps d = c.kept_steps-steps.ensures.debugger s (bare d) (subst (λ x. stands x s (bare d)) (sym c.machine-3.ensures) st.there) in
    let rest : Bool → List Command = λ b. if b then steps_on (kept_steps d) s e else follows h r.answer in (
      one_led stands s DoReverseContinue (delete ∷ rest (is_history_end r.answer)) d new
          (one_led stands s delete (rest (is_history_end r.answer)) r.next new
          (subst (λ b. HasDone stands s (rest b) e new) (sym yes)
          (done_led stands s (steps_on (kept_steps d) s e) e new (subst (λ k. StandsFor stands new s (led s (steps_on k s e) e)) count (c.step_on.ensures s e there))))),
      sym (ap (λ b. if b then h else begun h r.answer) yes),
    )

pub returns-else-is_history_end : goal.returns-else-is_history_end
returns-else-is_history_end g c s d st =
    let stands = g.M.RecordedMachine.stands in
    let may_want = g.M.RecordedMachine.may_want in
    let h = held c.args.holding.now in
    let delete = DoDelete (Some c.args.number) in
    let r = do_command s DoReverseContinue d in
    let e = (do_command s delete r.next).next in
    let told = c.do_command-answer.result in
    let back = c.do_command-answer.ensures.replied s d st in
    let is = sure_reply may_want s DoReverseContinue d back.reply refl back.is_reply in
    let middle = led_one stands s may_want DoReverseContinue d told c.do_command-answer.new.self back is in
    let there = c.unwatch.ensures s r.next middle in
    let same : c.is_history_end.result ≡ is_history_end r.answer =
    c.is_history_end.ensures ∙ is_history_end-means s back.reply.next told back.reply.answer back.replied.means ∙ ap (λ (r : Reply). is_history_end r.answer) is in
    let new = c.follow.new.session in
    let no : is_history_end r.answer ≡ false = sym same ∙ c.if-is_history_end.false in
    let rest : Bool → List Command = λ b. if b then steps_on (kept_steps d) s e else follows h r.answer in
    let more : given_moves.follows h told ≡ follows h r.answer = follows-means s back.reply.next h told back.reply.answer back.replied.means ∙ ap (λ (r : Reply). follows h r.answer) is in
    let holds : given_moves.begun h told ≡ begun h r.answer = begun-means s back.reply.next h told back.reply.answer back.replied.means ∙ ap (λ (r : Reply). begun h r.answer) is in (
      one_led stands s DoReverseContinue (delete ∷ rest (is_history_end r.answer)) d new
          (one_led stands s delete (rest (is_history_end r.answer)) r.next new
          (subst (λ b. HasDone stands s (rest b) e new) (sym no) (subst (λ cs. HasDone stands s cs e new) more (c.follow.ensures.done s e there)))),
      c.follow.ensures.begun ∙ holds ∙ sym (ap (λ b. if b then h else begun h r.answer) no),
    )
