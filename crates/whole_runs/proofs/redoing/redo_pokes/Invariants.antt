-- what was read of the notes was done again, and the rest leads to the same events
use Rattle.std.proofs.Common.{◌≡◌, ◌+◌, List, drop}
use Rattle.gang_model.specs.Debugger.Events.{Event}
use Rattle.gang_model.specs.Debugger.Debugger.{Debugger, Setting}
use Rattle.debug_traits.specs.Beginnings.{StandsAt}
use Rattle.whole_runs.specs.Notes.{AreNoted, noted}
use Rattle.whole_runs.specs.Costs.{steps_left}
use Rattle.whole_runs.specs.Runs.{KeepsCopies}
use Rattle.whole_runs.proofs.redoing.redo_pokes.Given as goal

abbrev pub invariant-loop-note : goal.invariant-loop-note
invariant-loop-note g l = record {
  redone : (s : Setting) (d : Debugger) (older : List Event) → StandsAt g.M.RecordedMachine.stands l.initial.machine s d older → AreNoted s older l.notes
      → (done : List Event) × StandsAt g.M.RecordedMachine.stands l.machine s d done × AreNoted s done (drop l.note-index l.notes) × (noted done (drop l.note-index l.notes) ≡ noted older l.notes);
  copies : KeepsCopies g.M.BeginsAgain.can_have g.M.BeginsAgain.copies l.initial.machine l.machine;
  cost : g.M.RecordedMachine.moves l.machine + steps_left (drop l.note-index l.notes) 0 0 ≡ g.M.RecordedMachine.moves l.initial.machine + steps_left l.notes 0 0;
}
