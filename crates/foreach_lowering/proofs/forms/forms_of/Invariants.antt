use Rattle.std.proofs.Common.{◌≡◌, [], ◌++◌, map, drop}
use Rattle.mask_lowering.specs.PointViews.{point_view}
use Rattle.foreach_lowering.specs.FormViews.{form_view, nesting_view}
use Rattle.foreach_lowering.proofs.NestedForms.{told}
use Rattle.foreach_lowering.proofs.FormLoops.{deepest}
use Rattle.foreach_lowering.proofs.forms.forms_of.Given as goal

-- what is still to be told follows what has been
abbrev pub invariant-loop-point : goal.invariant-loop-point
invariant-loop-point l =
    (told (map point_view l.fn.points) [] ≡ map form_view l.rounds.items ++ told (map point_view (drop l.point-index l.points)) (nesting_view l.nesting))
    × (deepest 0 (map point_view l.fn.points) [] ≡ deepest l.nesting.depth (map point_view (drop l.point-index l.points)) (nesting_view l.nesting))
