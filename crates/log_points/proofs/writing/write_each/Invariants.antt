-- what those that are left write is written behind what was written by these
use Rattle.std.proofs.Common.{drop, map}
use Rattle.gang_model.specs.Debugger.Debugger.{Debugger, Setting}
use Rattle.debug_session.specs.Sessions.{StandsFor}
use Rattle.conditional_stops.specs.Tables.{Table}
use Rattle.conditional_stops.specs.Views.{table_of}
use Rattle.log_points.specs.Points.{Written, log_of, written_of}
use Rattle.log_points.specs.Writing.{WritesHere}
use Rattle.log_points.proofs.writing.write_each.Given as goal

abbrev pub invariant-loop-point : goal.invariant-loop-point
invariant-loop-point g l =
    (s : Setting) (d : Debugger) → StandsFor g.M.RecordedMachine.stands l.session s d → (new : Table) (now : Written)
    → WritesHere s d (map log_of (drop l.point-index l.points)) (table_of l.terms) (written_of l.written) new now
    → WritesHere s d (map log_of l.points) (table_of l.initial.terms) (written_of l.initial.written) new now
