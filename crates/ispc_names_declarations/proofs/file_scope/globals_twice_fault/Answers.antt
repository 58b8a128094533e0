use Rattle.std.proofs.Common.{map}
use Rattle.source_tree.specs.Tree.{global_view}
use Rattle.ispc_names_declarations.proofs.Collected.{globals_found}
use Rattle.ispc_names_declarations.proofs.file_scope.globals_twice_fault.Goals as goal

pub returns : goal.returns
returns c = record {
  fault = globals_found c.later_globals_fault.result (map (λ x. global_view x.now) c.args.globals.now) c.new-before.result c.new-before.ensures c.later_globals_fault.ensures.fault;
}
