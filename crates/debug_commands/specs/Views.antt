-- Commands, as the definitions have them.
use Rattle.std.specs.Prelude.{Option, Some, None}
use Rattle.gang_model.specs.Debugger.Debugger as d
use Rattle.debug_commands.specs.declared.command.Target.{Target}
use Rattle.debug_commands.specs.declared.command.Command.{Command}
use Rattle.debug_commands.specs.declared.command.Command.TheVariants as command

abbrev pub target_view : Target → d.Target
target_view target = record { name = target.name.now; at = target.at }

abbrev pub command_view : Command → d.Command
command_view (command.Step n) = d.DoStep n
command_view (command.Next n) = d.DoNext n
command_view (command.ReverseStep n) = d.DoReverseStep n
command_view (command.ReverseNext n) = d.DoReverseNext n
command_view command.Finish = d.DoFinish
command_view command.Continue = d.DoContinue
command_view command.ReverseFinish = d.DoReverseFinish
command_view command.ReverseContinue = d.DoReverseContinue
command_view command.Undo = d.DoUndo
command_view (command.Print target) = d.DoPrint (target_view target)
command_view (command.Set target value) = d.DoSet (target_view target) value
command_view (command.Break line) = d.DoBreak line
command_view (command.Watch target) = d.DoWatch (target_view target)
command_view (command.Delete n) = d.DoDelete n
command_view (command.SetHistory n) = d.DoSetHistory n
command_view command.InfoBreakpoints = d.DoInfoBreakpoints
command_view command.InfoLocals = d.DoInfoLocals
command_view command.Backtrace = d.DoBacktrace
command_view command.Nothing = d.DoNothing
command_view command.Quit = d.DoQuit

abbrev pub option_view : Option Command → Option d.Command
option_view None = None
option_view (Some c) = Some (command_view c)
