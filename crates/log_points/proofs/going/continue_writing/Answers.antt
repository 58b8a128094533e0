use Rattle.std.proofs.Common.{ap, subst, map, ◌∙◌}
use Rattle.conditional_stops.specs.Views.{table_of}
use Rattle.log_points.specs.Going.{GoesWriting}
use Rattle.log_points.specs.Points.{log_of, silenced}
use Rattle.log_points.proofs.going.continue_writing.Goals as goal

pub returns-clause-wrote : goal.returns-clause-wrote
returns-clause-wrote g c s d st =
    subst (λ table. GoesWriting g.M.RecordedMachine.stands s c.args.direction c.args.most d (map log_of c.args.logs.now.points.items) table (table_of c.args.logs.now.terms) c.go_writing.result c.go_writing.new.session (table_of c.go_writing.new.conditions) (table_of c.go_writing.new.terms))
    (c.silence.ensures ∙ ap (λ points. silenced (map log_of points) (table_of c.args.conditions.now)) c.as_slice.ensures.value)
    (subst (λ points. GoesWriting g.M.RecordedMachine.stands s c.args.direction c.args.most d (map log_of points) (table_of c.silence.new.conditions) (table_of c.args.logs.now.terms) c.go_writing.result c.go_writing.new.session (table_of c.go_writing.new.conditions) (table_of c.go_writing.new.terms))
    c.as_slice-2.ensures.value (c.go_writing.ensures s d st))
