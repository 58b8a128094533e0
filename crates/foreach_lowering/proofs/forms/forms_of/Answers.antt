use Rattle.std.proofs.Common.{map, []}
use Rattle.mask_lowering.specs.PointViews.{point_view}
use Rattle.foreach_lowering.specs.FormViews.{form_view, nesting_view}
use Rattle.foreach_lowering.proofs.NestedForms.{told}
use Rattle.foreach_lowering.proofs.FormLoops.{deepest, told_all, deepest_all, function_done}
use Rattle.foreach_lowering.proofs.forms.forms_of.Goals as goal

pub returns : goal.returns
returns c = λ f is.
    let points = map point_view c.args.points.now in
    let rounds = map form_view c.loop-point.rounds.items in
    let round = nesting_view c.loop-point.nesting in
    function_done f points rounds c.loop-point.nesting.depth is
    (told_all c.args.points.now c.loop-point.point-index (told points []) rounds round c.loop-point-test.false c.loop-point.invariant.0)
    (deepest_all c.args.points.now c.loop-point.point-index (deepest 0 points []) c.loop-point.nesting.depth round c.loop-point-test.false c.loop-point.invariant.1)
