use Rattle.std.proofs.Common.{Some}
use Rattle.gang_model.specs.Debugger.Debugger.{DoDelete}
use Rattle.command_lists.proofs.DoneLists.{done_one}
use Rattle.prompt_stops.proofs.taking.delete_made.Goals as goal

pub returns : goal.returns
returns g c s d st =
    done_one g.M.RecordedMachine.stands s g.M.RecordedMachine.may_want (DoDelete (Some c.args.number)) d c.do_command.result c.do_command.new.self (c.do_command.ensures.replied s d st)
