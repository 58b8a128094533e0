use Rattle.std.proofs.Common.{◌++◌, [], map}
use Rattle.std.specs.List.{flat_map}
use Rattle.gang_model.specs.Names.NameFaults.{function_names, globals_twice, functions_twice}
use Rattle.gang_model.specs.Names.Scope.{file_bindings}
use Rattle.source_tree.specs.Tree.{function_view, global_view}
use Rattle.ispc_names_declarations.proofs.Merging.{pair_fault}
use Rattle.ispc_names_faults.proofs.whole.least_of_all.Goals as goal

pub returns : goal.returns
returns c =
    let globals = map (λ g. global_view g.now) c.args.globals.now in
    let functions = map (λ f. function_view f.now) c.args.functions.now in
    let inside = flat_map (function_names (map (λ f. f.name) functions) (file_bindings 0 globals)) functions in
    record {
      fault = pair_fault (globals_twice globals []) (functions_twice functions [] ++ inside) _ _ _ c.in_ok-in_globals.ensures.fault
          (pair_fault (functions_twice functions []) inside _ _ _ c.in_ok-in_signatures.ensures.fault c.in_ok-in_functions.ensures.fault c.least.ensures)
          c.least-2.ensures;
    }
