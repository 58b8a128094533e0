use Rattle.std.proofs.Common.{◌≡◌, map, take}
use Rattle.typed_tree.specs.Views.{dimension_view, var_view}
use Rattle.codegen.proofs.forms.index_variables.Given as goal

-- those of the dimensions so far
abbrev pub invariant-loop-dimension : goal.invariant-loop-dimension
invariant-loop-dimension l = map var_view l.made.items ≡ map (λ d. d.index) (map dimension_view (take l.dimension-index l.dims))
