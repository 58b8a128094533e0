use Rattle.std.proofs.Common.{◌≡◌, None, length, map, take}
use Rattle.gang_model.specs.Source.Parsed.{ParsedSource, functions_in, globals_in}
use Rattle.gang_model.specs.Types.Resolved.{global_entries}
use Rattle.ispc_names.specs.Tables.{AreTablesOf}
use Rattle.typed_tree.specs.Views as typed
use Rattle.type_check_functions.specs.Bodies.{declared_variables, own_variables}
use Rattle.type_check_functions.proofs.Collecting.{all_of, Collects}
use Rattle.type_check_functions.proofs.FunctionParts.{function_parts, views}
use Rattle.type_check_functions.proofs.functions.typed_functions.Given as goal

abbrev pub invariant-loop-function : goal.invariant-loop-function
invariant-loop-function l = record {
  entries : l.scope.entries ≡ l.fn.scope.entries;
  variables : (source : ParsedSource) → views l.fn.functions ≡ functions_in source → l.fn.scope.entries ≡ global_entries 0 (globals_in source)
      → AreTablesOf source l.fn.tables.items → l.collected.fault ≡ None → map own_variables l.collected.functions.items ≡ map (declared_variables source) (views (take (length l.yielded) l.fn.functions));
  collects : (source : ParsedSource) → views l.fn.functions ≡ functions_in source → l.fn.scope.entries ≡ global_entries 0 (globals_in source)
      → AreTablesOf source l.fn.tables.items → Collects l.collected.fault (map typed.function_view l.collected.functions.items) (all_of (function_parts source l.fn.functions (length l.yielded)));
}
