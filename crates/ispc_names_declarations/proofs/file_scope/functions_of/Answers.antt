use Rattle.std.proofs.Common.{◌+◌, drop, map}
use Rattle.std.proofs.lemmas.List.{drop_all}
use Rattle.gang_model.proofs.WalkedLists.{next_item}
use Rattle.source_tree.specs.Tree.{function_view}
use Rattle.ispc_names_declarations.proofs.Collected.{functions_passed, functions_all}
use Rattle.ispc_names_declarations.proofs.file_scope.functions_of.Goals as goal

pub loop-item-preserved : goal.loop-item-preserved
loop-item-preserved c =
    let items = c.deref-item-items.result.now in
    let i = c.loop-item.item-index in
    functions_passed (drop i items) (drop (i + 1) items) c.item-item.result (map (λ x. function_view x.now) c.loop-item.functions.items) _ _
    (next_item items i c.item-item.result c.loop-item-test.true c.item-item.is) c.loop-item.invariant c.in_ok-take_function.ensures.taken

pub returns : goal.returns
returns c =
    let items = c.deref-item-items.result.now in
    let i = c.loop-item.item-index in
    record {
      functions = functions_all (drop i items) (map (λ x. function_view x.now) c.loop-item.functions.items) _ c.loop-item.invariant (drop_all i items c.loop-item-test.false);
    }
