use Rattle.std.proofs.Common.{refl, subst, sym, map}
use Rattle.std.proofs.lemmas.List.{at_drop_more, at_drop_all}
use Rattle.conditional_stops.specs.Views.{table_of}
use Rattle.log_points.specs.declared.points.LogPoint.{LogPoint}
use Rattle.log_points.specs.Points.{log_of, written_of}
use Rattle.log_points.specs.Writing.{WritesHere, WritesOne}
use Rattle.log_points.proofs.writing.write_each.Goals as goal

pub loop-point-preserved : goal.loop-point-preserved
loop-point-preserved g c s d st new now rest =
    c.loop-point.invariant s d st new now
    (subst (λ logs. WritesHere s d logs (table_of c.loop-point.terms) (written_of c.loop-point.written) new now) (sym (at_drop_more (map log_of) c.args.points.now c.loop-point.point-index c.point-item.result c.loop-point-test.true)) (
      table_of c.write_one.new.terms,
      written_of c.write_one.new.written,
      subst (λ (point : LogPoint). WritesOne s d (log_of point) (table_of c.loop-point.terms) (written_of c.loop-point.written) (table_of c.write_one.new.terms) (written_of c.write_one.new.written)) c.point-item.is (c.write_one.ensures s d st),
      rest,
    ))

pub returns : goal.returns
returns g c s d st =
    let terms = table_of c.loop-point.terms in
    let written = written_of c.loop-point.written in
    c.loop-point.invariant s d st terms written
    (subst (λ logs. WritesHere s d logs terms written terms written) (sym (at_drop_all (map log_of) c.args.points.now c.loop-point.point-index c.loop-point-test.false)) (refl, refl))
