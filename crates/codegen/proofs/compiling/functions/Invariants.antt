use Rattle.std.proofs.Common.{length, map, take}
use Rattle.mask_lowering.specs.Views.{points_view}
use Rattle.foreach_lowering.specs.FormViews.{forms_view}
use Rattle.codegen.specs.Codes.{AreRounds, DoEach, Fit}
use Rattle.codegen.proofs.compiling.functions.Given as goal

-- the functions so far have their code
abbrev pub invariant-loop-points : goal.invariant-loop-points
invariant-loop-points l =
    DoEach l.made.items (map points_view (take (length l.yielded) l.lowered)) × Fit AreRounds l.made.items (map forms_view (take (length l.yielded) l.forms))
