use Rattle.std.proofs.Common.{◌≡◌, ◌≤◌, drop}
use Rattle.gang_model.specs.Names.Scope.{declaration, file_scope}
use Rattle.source_tree.specs.Tree.{tree_view}
use Rattle.ispc_names.proofs.ItemSteps.{file_from}
use Rattle.ispc_names.proofs.file_variables.file_variable.Given as goal

abbrev pub invariant-loop-item : goal.invariant-loop-item
invariant-loop-item l = record {
  within : l.number ≤ l.item-index;
  same : declaration (file_from l.number (drop l.item-index l.item-items)) l.name ≡ declaration (file_scope (tree_view l.fn.tree)) l.name;
}
