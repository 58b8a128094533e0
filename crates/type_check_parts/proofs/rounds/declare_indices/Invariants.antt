use Rattle.std.proofs.Common.{map, take}
use Rattle.source_tree.specs.Tree.{dim_view}
use Rattle.type_check_parts.proofs.Indices.{AreDeclared}
use Rattle.type_check_parts.proofs.rounds.declare_indices.Given as goal

-- the index variables of the dimensions so far are declared
abbrev pub invariant-loop-dim : goal.invariant-loop-dim
invariant-loop-dim l = AreDeclared l.fn.scope.entries l.scope.entries l.fn.scope.locals l.scope.locals (map dim_view (take l.dim-index l.dims))
