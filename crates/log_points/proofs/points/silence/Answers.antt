use Rattle.std.proofs.Common.{◌+◌, ap, sym, ◌∙◌, drop, map}
use Rattle.std.proofs.lemmas.List.{at_drop_more, at_drop_all}
use Rattle.conditional_stops.specs.Tables.{with_disabled}
use Rattle.conditional_stops.specs.Views.{table_of}
use Rattle.log_points.specs.declared.points.LogPoint.{LogPoint}
use Rattle.log_points.specs.Points.{log_of, silenced}
use Rattle.log_points.proofs.points.silence.Goals as goal

pub loop-point-preserved : goal.loop-point-preserved
loop-point-preserved c =
    let points = c.args.points.now in
    let i = c.loop-point.point-index in
    let point = c.point-item.result in
    let old = table_of c.loop-point.conditions in
    ap (λ t. silenced (map log_of (drop (i + 1) points)) t) (c.disable.ensures ∙ ap (λ (p : LogPoint). with_disabled p.number old) c.point-item.is)
    ∙ sym (at_drop_more (λ xs. silenced (map log_of xs) old) points i point c.loop-point-test.true)
    ∙ c.loop-point.invariant

pub returns : goal.returns
returns c =
    sym (at_drop_all (λ xs. silenced (map log_of xs) (table_of c.loop-point.conditions)) c.args.points.now c.loop-point.point-index c.loop-point-test.false)
    ∙ c.loop-point.invariant
