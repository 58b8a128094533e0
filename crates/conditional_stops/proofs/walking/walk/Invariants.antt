-- so many steps were made, and what is watched is noted where they lead
use Rattle.gang_model.specs.Debugger.Debugger.{Debugger, Setting}
use Rattle.debug_session.specs.Sessions.{StandsFor}
use Rattle.conditional_stops.specs.Noted.{IsWatched}
use Rattle.conditional_stops.specs.Views.{table_of}
use Rattle.conditional_stops.specs.Walking.{PassesSteps}
use Rattle.conditional_stops.proofs.walking.walk.Given as goal

abbrev pub invariant-loop-passed : goal.invariant-loop-passed
invariant-loop-passed g l =
    (s : Setting) (d : Debugger) → StandsFor g.M.RecordedMachine.stands l.initial.session s d → IsWatched s d l.watches l.initial.watched
    → (at : Debugger) × StandsFor g.M.RecordedMachine.stands l.session s at × IsWatched s at l.watches l.watched
    × PassesSteps l.passed s l.direction l.watches d (table_of l.initial.conditions) at (table_of l.conditions)
