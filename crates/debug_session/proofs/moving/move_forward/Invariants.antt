-- what is left from here is replied as the whole command, and what was noted is what the watches show; each turn made one move
use Rattle.std.proofs.Common.{◌≡◌, ◌+◌, ◌-◌}
use Rattle.gang_model.specs.Debugger.Debugger.{Debugger, Setting, forward, now}
use Rattle.debug_answers.specs.Meanings.{AreStops}
use Rattle.debug_session.specs.Goals.{goal_view}
use Rattle.debug_session.specs.Moves.{Follows, noted, watch_words}
use Rattle.debug_session.specs.Sessions.{bare}
use Rattle.debug_session.proofs.moving.move_forward.Given as goal

abbrev pub invariant-loop-done : goal.invariant-loop-done
invariant-loop-done g l = ((s : Setting) (d : Debugger) → g.M.RecordedMachine.stands l.initial.machine s (bare d) → AreStops s l.stops.items d.stops
    → (e : Debugger) × Follows g.M.RecordedMachine.stands s d l.machine e × (noted l.before.items ≡ watch_words (now s e) e.stops) × (forward l.most_steps s (goal_view l.fn.goal) d ≡ forward (l.most_steps - l._done) s (goal_view l.left) e))
    × (g.M.RecordedMachine.moves l.machine ≡ g.M.RecordedMachine.moves l.initial.machine + l._done)
