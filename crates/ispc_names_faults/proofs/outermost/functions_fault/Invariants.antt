use Rattle.std.proofs.Common.{◌≡◌, drop, map}
use Rattle.std.specs.List.{flat_map}
use Rattle.gang_model.specs.Source.Judged.{least_fault, merged}
use Rattle.gang_model.specs.Names.NameFaults.{function_names}
use Rattle.source_tree.specs.Tree.{function_view}
use Rattle.ispc_names_faults.proofs.outermost.functions_fault.Given as goal

abbrev pub invariant-loop-function : goal.invariant-loop-function
invariant-loop-function l = record {
  -- what is found so far and what is left decide
  found : least_fault (flat_map (function_names l.known l.fn.scopes.environment) (map (λ f. function_view f.now) l.fn.functions))
      ≡ merged l.first (least_fault (flat_map (function_names l.known l.fn.scopes.environment) (map (λ f. function_view f.now) (drop l.function-index l.functions))));
  environment : l.scopes.environment ≡ l.fn.scopes.environment;
}
