-- Targets that may be there, as the definitions have them.
use Rattle.std.specs.Prelude.{Option, Some, None}
use Rattle.gang_model.specs.Debugger.Debugger as d
use Rattle.debug_commands.specs.declared.command.Target.{Target}
use Rattle.debug_commands.specs.Views.{target_view}

-- a target that may be there
abbrev pub target_option : Option Target → Option d.Target
target_option None = None
target_option (Some target) = Some (target_view target)
