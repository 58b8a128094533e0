-- only pokes were taken back, and the step before them is still kept; what was asked tells of these and of the event that is next; each
-- move took an event back
use Rattle.std.proofs.Common.{◌≡◌, ◌<◌, false, length}
use Rattle.undo_log.specs.History.{steps_in}
use Rattle.gang_model.specs.Debugger.Debugger.{Debugger, Setting, kept_steps, now, stepped_back, taken_back}
use Rattle.debug_answers.specs.Meanings.{AreStops}
use Rattle.debug_session.specs.Bounds.{TakesBack}
use Rattle.debug_session.specs.Moves.{noted, watch_words}
use Rattle.debug_session.specs.Sessions.{bare}
use Rattle.debug_session.proofs.moving.take_step_back.Given as goal

abbrev pub invariant-loop-machine : goal.invariant-loop-machine
invariant-loop-machine g l = ((s : Setting) (d : Debugger) → g.M.RecordedMachine.stands l.initial.machine s (bare d) → 0 < kept_steps d
    → (e : Debugger) × g.M.RecordedMachine.stands l.machine s (bare e) × (0 < kept_steps e) × (stepped_back e ≡ stepped_back d)
    × (AreStops s l.stops.items d.stops → noted l.before.items ≡ watch_words (now s d) d.stops → l.may_change ≡ false → watch_words (now s d) d.stops ≡ watch_words (now s (taken_back e)) d.stops))
    × (0 < steps_in (g.M.RecordedMachine.history l.initial.machine).past
    → (0 < steps_in (g.M.RecordedMachine.history l.machine).past) × TakesBack g.M.RecordedMachine.moves g.M.RecordedMachine.history l.initial.machine l.machine)

abbrev pub decreases-loop-machine : goal.decreases-loop-machine
decreases-loop-machine g l = length (g.M.RecordedMachine.history l.machine).past
