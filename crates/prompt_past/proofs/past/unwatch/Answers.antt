use Rattle.std.proofs.Common.{Some}
use Rattle.gang_model.specs.Debugger.Debugger.{DoDelete}
use Rattle.prompt_moves.proofs.DoneCommands.{only_reply}
use Rattle.prompt_moves.proofs.MomentLaws.{led_one}
use Rattle.prompt_past.proofs.past.unwatch.Goals as goal

pub returns : goal.returns
returns g c s d st =
    let may_want = g.M.RecordedMachine.may_want in
    let delete = DoDelete (Some c.args.number) in
    let replies = c.do_command.ensures.replied s d st in
    led_one g.M.RecordedMachine.stands s may_want delete d c.do_command.result c.do_command.new.self replies (only_reply may_want s delete d replies.reply (λ may. may) (λ sets. sets) replies.is_reply)
