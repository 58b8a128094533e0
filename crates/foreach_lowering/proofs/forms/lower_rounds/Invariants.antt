use Rattle.std.proofs.Common.{◌≡◌, ◌++◌, map, drop}
use Rattle.gang_model.specs.Types.Tree.{Program}
use Rattle.mask_states.specs.Points.{points_in}
use Rattle.mask_lowering.specs.Views.{table_view}
use Rattle.foreach_lowering.specs.Forms.{function_forms}
use Rattle.foreach_lowering.specs.FormViews.{forms_view}
use Rattle.foreach_lowering.proofs.forms.lower_rounds.Given as goal

-- the functions so far have their forms
abbrev pub invariant-loop-points : goal.invariant-loop-points
invariant-loop-points l = (p : Program) → table_view l.fn.masked ≡ map points_in p.functions
    → map function_forms p.functions ≡ map forms_view l.functions.items ++ map function_forms (drop l.points-index p.functions)
