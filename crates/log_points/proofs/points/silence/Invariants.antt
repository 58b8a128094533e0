-- those that are left are still to be disabled
use Rattle.std.proofs.Common.{◌≡◌, drop, map}
use Rattle.conditional_stops.specs.Views.{table_of}
use Rattle.log_points.specs.Points.{log_of, silenced}
use Rattle.log_points.proofs.points.silence.Given as goal

abbrev pub invariant-loop-point : goal.invariant-loop-point
invariant-loop-point l =
    silenced (map log_of (drop l.point-index l.points)) (table_of l.conditions) ≡ silenced (map log_of l.points) (table_of l.initial.conditions)
