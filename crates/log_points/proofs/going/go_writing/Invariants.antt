-- so many stops were passed, and what is written at those that come is written behind what was written at these
use Rattle.std.proofs.Common.{ℕ, ◌+◌, map}
use Rattle.gang_model.specs.Debugger.Debugger.{Debugger, Setting}
use Rattle.debug_session.specs.Sessions.{StandsFor}
use Rattle.conditional_stops.specs.Going.{Passes, command_of}
use Rattle.conditional_stops.specs.Tables.{Table}
use Rattle.conditional_stops.specs.Views.{table_of}
use Rattle.log_points.specs.Going.{places}
use Rattle.log_points.specs.Points.{Written, log_of, no_text, written_of}
use Rattle.log_points.specs.Writing.{WritesAlong}
use Rattle.log_points.proofs.going.go_writing.Given as goal

abbrev pub invariant-loop-passed : goal.invariant-loop-passed
invariant-loop-passed g l =
    (s : Setting) (d : Debugger) → StandsFor g.M.RecordedMachine.stands l.initial.session s d
    → (at : Debugger) × StandsFor g.M.RecordedMachine.stands l.session s at × Passes l.passed s (command_of l.direction) d (table_of l.initial.conditions) at (table_of l.conditions)
    × ((n : ℕ) (new : Table) (now : Written) → WritesAlong s (places n s (command_of l.direction) at) (map log_of l.points) (table_of l.terms) (written_of l.written) new now
    → WritesAlong s (places (l.passed + n) s (command_of l.direction) d) (map log_of l.points) (table_of l.initial.terms) no_text new now)
