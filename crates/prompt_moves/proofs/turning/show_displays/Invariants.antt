-- what was displayed so far
use Rattle.std.proofs.Common.{map, take}
use Rattle.gang_model.specs.Debugger.Debugger.{Debugger, Setting}
use Rattle.command_lists.specs.Lists.{HasDone}
use Rattle.debug_session.specs.Sessions.{StandsFor}
use Rattle.prompt_scenes.specs.Holding.{entry_of}
use Rattle.prompt_moves.specs.Following.{shown}
use Rattle.prompt_moves.proofs.turning.show_displays.Given as goal

abbrev pub invariant-loop-displayed : goal.invariant-loop-displayed
invariant-loop-displayed g l =
    (s : Setting) (d : Debugger) → StandsFor g.M.RecordedMachine.stands l.initial.session s d
    → HasDone g.M.RecordedMachine.stands s (shown (map entry_of (take l.displayed-index l.displays))) d l.session
