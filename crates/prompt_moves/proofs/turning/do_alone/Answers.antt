use Rattle.debug_commands.specs.Views.{command_view}
use Rattle.command_lists.proofs.DoneLists.{done_one}
use Rattle.prompt_moves.proofs.turning.do_alone.Goals as goal

pub returns : goal.returns
returns g c s d st =
    done_one g.M.RecordedMachine.stands s g.M.RecordedMachine.may_want (command_view c.args.command) d c.do_command-answer.result c.do_command-answer.new.self (c.do_command-answer.ensures.replied s d st)
