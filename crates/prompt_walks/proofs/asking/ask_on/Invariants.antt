-- what is left of the steps leads on from here
use Rattle.std.proofs.Common.{◌≡◌}
use Rattle.gang_model.specs.Debugger.Debugger.{Debugger, Setting}
use Rattle.debug_session.specs.Sessions.{StandsFor}
use Rattle.prompt_moves.specs.Moments.{led, steps_on}
use Rattle.prompt_walks.proofs.asking.ask_on.Given as goal

abbrev pub invariant-loop-left : goal.invariant-loop-left
invariant-loop-left g l =
    (s : Setting) (d : Debugger) → StandsFor g.M.RecordedMachine.stands l.initial.session s d
    → (e : Debugger) × StandsFor g.M.RecordedMachine.stands l.session s e × (led s (steps_on l.most s d) d ≡ led s (steps_on l.left s e) e)

abbrev pub decreases-loop-left : goal.decreases-loop-left
decreases-loop-left g l = l.left
