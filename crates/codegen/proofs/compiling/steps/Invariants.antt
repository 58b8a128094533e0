use Rattle.std.proofs.Common.{length, map, take}
use Rattle.mask_lowering.specs.PointViews.{point_view}
use Rattle.foreach_lowering.specs.FormViews.{form_view}
use Rattle.codegen.specs.Codes.{DoAll, Fit, IsRoundOf}
use Rattle.codegen.proofs.compiling.steps.Given as goal

-- the points so far have their code
abbrev pub invariant-loop-point : goal.invariant-loop-point
invariant-loop-point l =
    DoAll l.made.items (map point_view (take (length l.yielded) l.points))
    × Fit IsRoundOf l.made.items (map form_view (take (length l.yielded) l.forms))
