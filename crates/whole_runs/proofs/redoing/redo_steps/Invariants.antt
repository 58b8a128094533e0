-- so many of the steps were done again
use Rattle.std.proofs.Common.{◌≡◌, ◌+◌, List}
use Rattle.gang_model.specs.Debugger.Events.{Event}
use Rattle.gang_model.specs.Debugger.Debugger.{Debugger, Setting}
use Rattle.debug_traits.specs.Beginnings.{StandsAt}
use Rattle.whole_runs.specs.Notes.{HaveGone, steps_on}
use Rattle.whole_runs.specs.Runs.{KeepsCopies}
use Rattle.whole_runs.proofs.redoing.redo_steps.Given as goal

abbrev pub invariant-loop-done : goal.invariant-loop-done
invariant-loop-done g l = record {
  redone : (s : Setting) (d : Debugger) (older : List Event) → StandsAt g.M.RecordedMachine.stands l.initial.machine s d older → HaveGone s l.steps older
      → StandsAt g.M.RecordedMachine.stands l.machine s d (steps_on l._done older);
  copies : KeepsCopies g.M.BeginsAgain.can_have g.M.BeginsAgain.copies l.initial.machine l.machine;
  cost : g.M.RecordedMachine.moves l.machine ≡ g.M.RecordedMachine.moves l.initial.machine + l._done;
}
