use Rattle.std.proofs.Common.{◌∙◌, map, ap}
use Rattle.source_tree.specs.Tree.{function_view, global_view, tree_view}
use Rattle.ispc_names_faults.proofs.Found.{source_found}
use Rattle.ispc_names_faults.proofs.whole.names_fault.Goals as goal

pub returns : goal.returns
returns c = record {
  fault = source_found c.least_of_all.result (tree_view c.args.tree.now) (map (λ g. global_view g.now) c.deref.result.now) (map (λ f. function_view f.now) c.deref-2.result.now)
      (ap (map (λ g. global_view g.now)) c.deref.ensures.value ∙ c.in_ok-globals.ensures.globals)
      (ap (map (λ f. function_view f.now)) c.deref-2.ensures.value ∙ c.in_ok-functions.ensures.functions)
      c.least_of_all.ensures.fault;
}
