use Rattle.std.proofs.Common.{◌≡◌, drop, map}
use Rattle.gang_model.specs.Source.Judged.{least_fault, merged}
use Rattle.gang_model.specs.Names.NameFaults.{params_twice}
use Rattle.gang_model.specs.Names.Scope.{with_params}
use Rattle.ispc_names_scopes.specs.Scopes.{site}
use Rattle.source_tree.specs.Tree.{param_view}
use Rattle.ispc_names_declarations.proofs.declarations.params_fault.Given as goal

abbrev pub invariant-loop-param : goal.invariant-loop-param
invariant-loop-param l = record {
  -- what is found so far and what is left decide
  found : least_fault (params_twice (map param_view l.fn.params) (site l.fn.scopes)) ≡ merged l.first (least_fault (params_twice (map param_view (drop l.param-index l.params)) (site l.scopes)));
  declared : with_params (map param_view l.fn.params) (site l.fn.scopes) ≡ with_params (map param_view (drop l.param-index l.params)) (site l.scopes);
  outside : l.scopes.outside ≡ l.fn.scopes.outside;
}
