-- the watches that were read are asked
use Rattle.std.proofs.Common.{◌≡◌, drop, map}
use Rattle.gang_model.specs.Debugger.Debugger.{Debugger, Setting}
use Rattle.debug_session.specs.Sessions.{StandsFor}
use Rattle.conditional_stops.specs.SightViews.{sights_view}
use Rattle.conditional_stops.specs.Views.{table_of}
use Rattle.conditional_stops.specs.Watches.{seen}
use Rattle.conditional_stops.proofs.Changed.{AskedFrames}
use Rattle.conditional_stops.proofs.asking.ask_frames.Given as goal

abbrev pub invariant-loop-watch : goal.invariant-loop-watch
invariant-loop-watch g l = record {
  place : l.place ≡ l.watch-index;
  asked : (s : Setting) (began d : Debugger) → StandsFor g.M.RecordedMachine.stands l.session s d → sights_view l.before.items ≡ map (seen s began) l.watches
      → sights_view l.here.items ≡ map (seen s d) l.watches
      → AskedFrames l.direction s began d l.watches (drop l.watch-index l.watches) (table_of l.initial.conditions) l.first (table_of l.conditions);
}
