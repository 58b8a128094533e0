-- a step is still kept, what is left from here is replied as the whole command, and what was noted is what the watches show; each move
-- took an event back
use Rattle.std.proofs.Common.{◌≡◌, ◌-◌, ◌<◌}
use Rattle.undo_log.specs.History.{steps_in}
use Rattle.gang_model.specs.Debugger.Debugger.{Debugger, Setting, backward, kept_steps, now}
use Rattle.debug_answers.specs.Meanings.{AreStops}
use Rattle.debug_session.specs.Bounds.{TakesBack}
use Rattle.debug_session.specs.Goals.{goal_view}
use Rattle.debug_session.specs.Moves.{Follows, noted, watch_words}
use Rattle.debug_session.specs.Sessions.{bare}
use Rattle.debug_session.proofs.moving.move_backward.Given as goal

abbrev pub invariant-loop-done : goal.invariant-loop-done
invariant-loop-done g l = ((s : Setting) (d : Debugger) → g.M.RecordedMachine.stands l.initial.machine s (bare d) → AreStops s l.stops.items d.stops → 0 < kept_steps d
    → (e : Debugger) × Follows g.M.RecordedMachine.stands s d l.machine e × (0 < kept_steps e) × (noted l.before.items ≡ watch_words (now s e) e.stops) × (backward l._done-end s (goal_view l.fn.goal) d ≡ backward (l._done-end - l._done) s (goal_view l.left) e))
    × (0 < steps_in (g.M.RecordedMachine.history l.initial.machine).past
    → (0 < steps_in (g.M.RecordedMachine.history l.machine).past) × TakesBack g.M.RecordedMachine.moves g.M.RecordedMachine.history l.initial.machine l.machine)
