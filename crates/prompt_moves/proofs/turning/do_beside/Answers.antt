use Rattle.debug_commands.specs.Views.{command_view}
use Rattle.command_lists.proofs.DoneLists.{done_one}
use Rattle.prompt_moves.proofs.turning.do_beside.Goals as goal

pub returns-then-not-lists_frames_alone : goal.returns-then-not-lists_frames_alone
returns-then-not-lists_frames_alone g c s d st =
    done_one g.M.RecordedMachine.stands s g.M.RecordedMachine.may_want (command_view c.args.command) d c.do_command-answer.result c.do_command-answer.new.self (c.do_command-answer.ensures.replied s d st)

pub returns-else-not-lists_frames_alone : goal.returns-else-not-lists_frames_alone
returns-else-not-lists_frames_alone g c s d st =
    done_one g.M.RecordedMachine.stands s g.M.RecordedMachine.may_want (command_view c.args.command) d c.do_command-answer.result c.do_command-answer.new.self (c.do_command-answer.ensures.replied s d st)
