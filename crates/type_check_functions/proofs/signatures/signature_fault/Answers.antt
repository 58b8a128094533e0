use Rattle.std.proofs.Common.{◌∙◌, ◌+◌, drop, map, ap, sym}
use Rattle.std.specs.List.{flat_map}
use Rattle.gang_model.specs.Source.Judged.{least_fault, merged}
use Rattle.gang_model.specs.Types.TypeFaults.{param_faults, result_rate_faults, signature_faults}
use Rattle.gang_model.proofs.JudgedLaws.{least_fault-append}
use Rattle.gang_model.proofs.WalkedLists.{next_item}
use Rattle.source_tree.specs.Tree.{function_view, param_view}
use Rattle.ispc_names_declarations.proofs.Merging.{one_more}
use Rattle.type_check_functions.proofs.signatures.signature_fault.Goals as goal

pub loop-param-init : goal.loop-param-init
loop-param-init c =
    let f = c.args.function.now in
    let faults = param_faults f.spec.is_exported in
    least_fault-append (result_rate_faults (function_view f)) (flat_map faults (map param_view f.params.items))
    ∙ (ap (λ x. merged x (least_fault (flat_map faults (map param_view f.params.items)))) (sym c.result_rate_fault-first.ensures)
    ∙ ap (λ ps. merged c.result_rate_fault-first.result (least_fault (flat_map faults (map param_view ps)))) (sym c.deref-param-items.ensures.value))

pub loop-param-preserved : goal.loop-param-preserved
loop-param-preserved c =
    let f = c.args.function.now in
    let items = c.deref-param-items.result.now in
    let i = c.loop-param.param-index in
    let p = c.param-item.result in
    let faults = param_faults f.spec.is_exported in
    let split = next_item items i p c.loop-param-test.true c.param-item.is in
    one_more (least_fault (signature_faults (function_view f))) c.loop-param.first c.param_fault.result c.least-first.result (least_fault (faults (param_view p)))
    (least_fault (flat_map faults (map param_view (drop i items)))) (least_fault (flat_map faults (map param_view (drop (i + 1) items)))) c.loop-param.invariant
    (ap (λ ps. least_fault (flat_map faults (map param_view ps))) split ∙ least_fault-append (faults (param_view p)) (flat_map faults (map param_view (drop (i + 1) items))))
    c.param_fault.ensures c.least-first.ensures
