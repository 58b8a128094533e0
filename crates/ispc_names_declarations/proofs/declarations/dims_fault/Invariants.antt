use Rattle.std.proofs.Common.{◌≡◌, drop, map}
use Rattle.gang_model.specs.Source.Judged.{least_fault, merged}
use Rattle.gang_model.specs.Names.Scope.{with_dims}
use Rattle.ispc_names_scopes.specs.Scopes.{site}
use Rattle.source_tree.specs.Tree.{dim_view}
use Rattle.ispc_names_declarations.specs.IndexVariables.{dims_twice}
use Rattle.ispc_names_declarations.proofs.declarations.dims_fault.Given as goal

abbrev pub invariant-loop-dim : goal.invariant-loop-dim
invariant-loop-dim l = record {
  -- what is found so far and what is left decide
  found : least_fault (dims_twice (map dim_view l.fn.dims) (site l.fn.scopes)) ≡ merged l.first (least_fault (dims_twice (map dim_view (drop l.dim-index l.dims)) (site l.scopes)));
  declared : with_dims (map dim_view l.fn.dims) (site l.fn.scopes) ≡ with_dims (map dim_view (drop l.dim-index l.dims)) (site l.scopes);
  outside : l.scopes.outside ≡ l.fn.scopes.outside;
}
