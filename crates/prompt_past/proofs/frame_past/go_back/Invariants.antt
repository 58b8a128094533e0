-- what is left of the way back leads on from here
use Rattle.std.proofs.Common.{◌≡◌}
use Rattle.gang_model.specs.Debugger.Debugger.{Debugger, Setting, kept_steps}
use Rattle.debug_session.specs.Sessions.{StandsFor}
use Rattle.conditional_stops.specs.SightViews.{sight_view}
use Rattle.prompt_moves.specs.Moments.{led}
use Rattle.prompt_past.specs.FramePast.{to_change}
use Rattle.prompt_past.proofs.frame_past.go_back.Given as goal

abbrev pub invariant-loop-left : goal.invariant-loop-left
invariant-loop-left g l =
    (s : Setting) (d : Debugger) → StandsFor g.M.RecordedMachine.stands l.initial.session s d
    → (e : Debugger) × StandsFor g.M.RecordedMachine.stands l.session s e
    × (led s (to_change (kept_steps d) s l.watch (sight_view l.shown) d) d ≡ led s (to_change l.left s l.watch (sight_view l.shown) e) e)

abbrev pub decreases-loop-left : goal.decreases-loop-left
decreases-loop-left g l = l.left
