use Rattle.std.proofs.Common.{◌∷◌, ◌++◌, [], sym, ap, ◌∙◌, map, take}
use Rattle.std.proofs.lemmas.List.{map-append}
use Rattle.gang_model.specs.Names.Scope.{file_scope, standings_of}
use Rattle.source_tree.specs.Tree.{function_view}
use Rattle.ispc_names_table.specs.Scopes.{standings_view}
use Rattle.ispc_names.proofs.ItemSteps.{functions, functions-more, functions-same}
use Rattle.ispc_names.proofs.resolution.tables_of.Goals as goal
use Rattle.ispc_names.proofs.resolution.tables_of.Goals.{in-Function+in_ok-steps_of+in_ok-push, in_default}

pub loop-item-preserved : goal.loop-item-preserved
loop-item-preserved c = λ source.
    let xs = c.deref-item-items.result.now in
    let i = c.loop-item.item-index in
    let x = c.item-item.result in
    let steps = standings_of (file_scope source) in
    let before = c.loop-item.tables.items in
    let so_far = c.loop-item.invariant source in
    elim c.match-item.branch [
      | in-Function+in_ok-steps_of+in_ok-push w ↦
          let f = w.in-Function.function in
          let t = w.in_ok-steps_of.field-0 in
          let fs = functions (take i xs) in
          let left = ap (map standings_view) w.in_ok-push.ensures.items ∙ map-append standings_view before (t ∷ []) in
          let right = ap (map steps) (functions-more xs i x c.loop-item-test.true c.item-item.is f w.in-Function.is) ∙ map-append steps fs (function_view f ∷ []) in
          rw w.tables-is (left ∙ ap (λ z. z ++ standings_view t ∷ []) so_far ∙ ap (λ z. map steps fs ++ z ∷ []) (w.in_ok-steps_of.ensures.steps source) ∙ sym right)
      | in_default w ↦
          rw w.tables-is (so_far ∙ ap (map steps) (sym (functions-same xs i x c.loop-item-test.true c.item-item.is w.in_default.field-0 w.in_default.is)))
    ]
