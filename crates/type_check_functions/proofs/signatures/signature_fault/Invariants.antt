use Rattle.std.proofs.Common.{◌≡◌, drop, map}
use Rattle.std.specs.List.{flat_map}
use Rattle.gang_model.specs.Source.Judged.{least_fault, merged}
use Rattle.gang_model.specs.Types.TypeFaults.{param_faults, signature_faults}
use Rattle.source_tree.specs.Tree.{function_view, param_view}
use Rattle.type_check_functions.proofs.signatures.signature_fault.Given as goal

-- what is found so far and what is left decide
abbrev pub invariant-loop-param : goal.invariant-loop-param
invariant-loop-param l =
    least_fault (signature_faults (function_view l.function))
    ≡ merged l.first (least_fault (flat_map (param_faults l.function.spec.is_exported) (map param_view (drop l.param-index l.param-items))))
