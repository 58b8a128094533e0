use Rattle.std.proofs.Common.{◌+◌, drop, map}
use Rattle.std.proofs.lemmas.List.{drop_all}
use Rattle.gang_model.proofs.WalkedLists.{next_item}
use Rattle.source_tree.specs.Tree.{global_view}
use Rattle.ispc_names_declarations.proofs.Collected.{globals_passed, globals_all}
use Rattle.ispc_names_declarations.proofs.file_scope.globals_of.Goals as goal

pub loop-item-preserved : goal.loop-item-preserved
loop-item-preserved c =
    let items = c.deref-item-items.result.now in
    let i = c.loop-item.item-index in
    globals_passed (drop i items) (drop (i + 1) items) c.item-item.result (map (λ x. global_view x.now) c.loop-item.globals.items) _ _
    (next_item items i c.item-item.result c.loop-item-test.true c.item-item.is) c.loop-item.invariant c.in_ok-take_global.ensures.taken

pub returns : goal.returns
returns c =
    let items = c.deref-item-items.result.now in
    let i = c.loop-item.item-index in
    record {
      globals = globals_all (drop i items) (map (λ x. global_view x.now) c.loop-item.globals.items) _ c.loop-item.invariant (drop_all i items c.loop-item-test.false);
    }
