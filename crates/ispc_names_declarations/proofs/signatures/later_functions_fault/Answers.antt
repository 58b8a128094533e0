use Rattle.std.proofs.Common.{◌+◌, drop, map, ap}
use Rattle.gang_model.proofs.WalkedLists.{next_item}
use Rattle.source_tree.specs.Tree.{function_view}
use Rattle.ispc_names_declarations.proofs.Collected.{functions_step}
use Rattle.ispc_names_declarations.proofs.signatures.later_functions_fault.Goals as goal

pub loop-function-preserved : goal.loop-function-preserved
loop-function-preserved c =
    let items = c.args.functions.now in
    let i = c.loop-function.function-index in
    let f = function_view c.function-item.result.now in
    functions_step (map (λ x. function_view x.now) (drop i items)) (map (λ x. function_view x.now) (drop (i + 1) items)) f c.loop-function.before c.signature_fault.new.before _ _ _ _
    (ap (map (λ x. function_view x.now)) (next_item items i c.function-item.result c.loop-function-test.true c.function-item.is))
    c.loop-function.invariant c.in_ok-signature_fault.ensures.fault c.least-first.ensures c.in_ok-signature_fault.ensures.last
