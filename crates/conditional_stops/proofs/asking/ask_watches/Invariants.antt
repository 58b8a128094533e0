-- the watches that were read and show other words are asked, and the words of the others are noted behind theirs
use Rattle.std.proofs.Common.{◌≡◌, ◌≤◌, drop}
use Rattle.gang_model.specs.Debugger.Debugger.{Debugger, Setting, differs, now}
use Rattle.debug_session.specs.Moves.{noted, watch_words}
use Rattle.debug_session.specs.Sessions.{StandsFor}
use Rattle.conditional_stops.specs.declared.reasons.Reason.TheVariants as reason
use Rattle.conditional_stops.specs.Views.{table_of}
use Rattle.conditional_stops.proofs.Asked.{AskedSo}
use Rattle.conditional_stops.proofs.asking.ask_watches.Given as goal

abbrev pub invariant-loop-entry : goal.invariant-loop-entry
invariant-loop-entry g l = record {
  few : l.next ≤ l.entry-index;
  asked : (s : Setting) (began d : Debugger) → StandsFor g.M.RecordedMachine.stands l.session s d → noted l.before.items ≡ watch_words (now s began) d.stops
      → (so : AskedSo reason.Watch (differs (now s began) (now s d)) s d d.stops (table_of l.initial.conditions) (drop l.entry-index l.entry-items) l.first (table_of l.conditions))
      × (drop l.next (noted l.before.items) ≡ watch_words (now s began) so.rest);
}
