use Rattle.std.proofs.Common.{◌≡◌, drop, map}
use Rattle.gang_model.specs.Source.Judged.{least_fault, merged}
use Rattle.source_tree.specs.Tree.{function_view}
use Rattle.ispc_names_declarations.specs.NamesBefore.{later_functions}
use Rattle.ispc_names_declarations.proofs.signatures.later_functions_fault.Given as goal

-- what is found so far and what is left decide
abbrev pub invariant-loop-function : goal.invariant-loop-function
invariant-loop-function l =
    least_fault (later_functions (map (λ f. function_view f.now) l.fn.functions) l.fn.before)
    ≡ merged l.first (least_fault (later_functions (map (λ f. function_view f.now) (drop l.function-index l.functions)) l.before))
