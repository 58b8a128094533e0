use Rattle.std.proofs.Common.{◌∙◌, ◌+◌, ◌++◌, ◌∷◌, [], drop, map, ap}
use Rattle.gang_model.proofs.WalkedLists.{next_item}
use Rattle.source_tree.specs.Tree.{global_view}
use Rattle.ispc_names_declarations.proofs.Collected.{globals_step}
use Rattle.ispc_names_declarations.proofs.file_scope.later_globals_fault.Goals as goal

pub loop-global-preserved : goal.loop-global-preserved
loop-global-preserved c =
    let items = c.args.globals.now in
    let i = c.loop-global.global-index in
    let g = global_view c.global-item.result.now in
    globals_step (map (λ x. global_view x.now) (drop i items)) (map (λ x. global_view x.now) (drop (i + 1) items)) g c.loop-global.before c.add.new.self c.deref.result.now _ _ _ _ c.is_taken-is_twice.result
    (ap (map (λ x. global_view x.now)) (next_item items i c.global-item.result c.loop-global-test.true c.global-item.is))
    c.loop-global.invariant c.deref.ensures.value c.is_taken-is_twice.ensures c.fault_if.ensures c.least-first.ensures
    (c.in_ok-add.ensures.last ∙ ap (λ n. c.loop-global.before ++ n ∷ []) c.deref-in-loop-global.ensures.value)
