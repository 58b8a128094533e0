-- what is left of the moves back leads on from here
use Rattle.std.proofs.Common.{◌≡◌}
use Rattle.gang_model.specs.Debugger.Debugger.{Debugger, Setting}
use Rattle.debug_session.specs.Sessions.{StandsFor}
use Rattle.prompt_moves.specs.Moments.{led, stops_back}
use Rattle.prompt_past.proofs.past.tell_back.Given as goal

abbrev pub invariant-loop-left : goal.invariant-loop-left
invariant-loop-left g l =
    (s : Setting) (d : Debugger) → StandsFor g.M.RecordedMachine.stands l.initial.session s d
    → (e : Debugger) × StandsFor g.M.RecordedMachine.stands l.session s e × (led s (stops_back l.most s d) d ≡ led s (stops_back l.left s e) e)

abbrev pub decreases-loop-left : goal.decreases-loop-left
decreases-loop-left g l = l.left
