-- what is left of the commands leads on from here
use Rattle.std.proofs.Common.{◌≡◌, replicate}
use Rattle.gang_model.specs.Debugger.Debugger.{Debugger, Setting}
use Rattle.debug_commands.specs.Views.{command_view}
use Rattle.debug_session.specs.Sessions.{StandsFor}
use Rattle.prompt_moves.specs.Moments.{led}
use Rattle.prompt_moves.proofs.moments.repeat.Given as goal

abbrev pub invariant-loop-left : goal.invariant-loop-left
invariant-loop-left g l =
    (s : Setting) (d : Debugger) → StandsFor g.M.RecordedMachine.stands l.initial.session s d
    → (e : Debugger) × StandsFor g.M.RecordedMachine.stands l.session s e × (led s (replicate l.count (command_view l.command)) d ≡ led s (replicate l.left (command_view l.command)) e)

abbrev pub decreases-loop-left : goal.decreases-loop-left
decreases-loop-left g l = l.left
