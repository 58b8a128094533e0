-- so many stops were passed
use Rattle.std.proofs.Common.{◌≡◌, ◌≤◌, ◌+◌, ◌*◌}
use Rattle.gang_model.specs.Debugger.Debugger.{Debugger, Setting}
use Rattle.debug_session.specs.Sessions.{StandsFor}
use Rattle.conditional_stops.specs.declared.going.Direction.TheVariants as direction
use Rattle.conditional_stops.specs.Going.{Passes, command_of}
use Rattle.conditional_stops.specs.Views.{table_of}
use Rattle.conditional_stops.proofs.going.continue_on.Given as goal

abbrev pub invariant-loop-passed : goal.invariant-loop-passed
invariant-loop-passed g l = record {
  passes : (s : Setting) (d : Debugger) → StandsFor g.M.RecordedMachine.stands l.initial.session s d
      → (at : Debugger) × StandsFor g.M.RecordedMachine.stands l.session s at × Passes l.passed s (command_of l.direction) d (table_of l.initial.conditions) at (table_of l.conditions);
  moves : (s : Setting) (d : Debugger) → StandsFor g.M.RecordedMachine.stands l.initial.session s d → l.direction ≡ direction.Forward
      → g.M.RecordedMachine.moves l.session.machine ≤ g.M.RecordedMachine.moves l.initial.session.machine + l.passed * s.limit;
}
