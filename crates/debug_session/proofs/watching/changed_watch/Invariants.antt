-- none of the watches that were read changed, and the words of the others are noted behind theirs
use Rattle.std.proofs.Common.{◌≡◌, ◌≤◌, ℕ, List, drop}
use Rattle.gang_model.specs.Running.State.{State}
use Rattle.gang_model.specs.Debugger.Debugger as model
use Rattle.gang_model.specs.Debugger.Debugger.{Debugger, Setting, differs, first_stop, now}
use Rattle.debug_answers.specs.Meanings.{AreStops}
use Rattle.debug_session.specs.Moves.{noted, watch_words}
use Rattle.debug_session.specs.Sessions.{bare}
use Rattle.debug_session.proofs.watching.changed_watch.Given as goal

abbrev pub invariant-loop-entry : goal.invariant-loop-entry
invariant-loop-entry g l = record {
  few : l.next ≤ l.entry-index;
  same : (s : Setting) (d : Debugger) (old : State) (meant : List (ℕ × model.Stop)) → g.M.RecordedMachine.stands l.machine s (bare d) → AreStops s l.entry-items meant → noted l.before.items ≡ watch_words old meant
      → (rest : List (ℕ × model.Stop)) × AreStops s (drop l.entry-index l.entry-items) rest × (first_stop (differs old (now s d)) meant ≡ first_stop (differs old (now s d)) rest)
      × (drop l.next (noted l.before.items) ≡ watch_words old rest);
}
