use Rattle.std.proofs.Common.{map}
use Rattle.source_tree.specs.Tree.{function_view}
use Rattle.ispc_names_declarations.proofs.Collected.{functions_found}
use Rattle.ispc_names_declarations.proofs.signatures.functions_twice_fault.Goals as goal

pub returns : goal.returns
returns c = record {
  fault = functions_found c.later_functions_fault.result (map (λ x. function_view x.now) c.args.functions.now) c.new-before.result c.new-before.ensures c.later_functions_fault.ensures.fault;
}
