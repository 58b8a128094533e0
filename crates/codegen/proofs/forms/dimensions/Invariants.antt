use Rattle.std.proofs.Common.{map, take}
use Rattle.typed_tree.specs.Views.{dimension_view}
use Rattle.codegen.specs.Codes.{Fit, IsDimension}
use Rattle.codegen.proofs.forms.dimensions.Given as goal

-- the dimensions so far have their code
abbrev pub invariant-loop-dimension : goal.invariant-loop-dimension
invariant-loop-dimension l = Fit IsDimension l.made.items (map dimension_view (take l.dimension-index l.dims))
