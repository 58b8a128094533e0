use Rattle.std.proofs.Common.{◌≡◌, drop, map}
use Rattle.gang_model.specs.Source.Judged.{least_fault, merged}
use Rattle.source_tree.specs.Tree.{dim_view}
use Rattle.ispc_names_expressions.specs.Bounds.{bounds_names}
use Rattle.ispc_names_expressions.proofs.heads.bounds_fault.Given as goal

-- what is found so far and what is left decide
abbrev pub invariant-loop-dim : goal.invariant-loop-dim
invariant-loop-dim l =
    least_fault (bounds_names (map dim_view l.fn.dims) l.functions l.scopes.environment)
    ≡ merged l.first (least_fault (bounds_names (map dim_view (drop l.dim-index l.dims)) l.functions l.scopes.environment))
