use Rattle.std.proofs.Common.{◌≡◌, ◌++◌, drop, map}
use Rattle.gang_model.specs.Source.Parsed.{globals_in}
use Rattle.source_tree.specs.Tree.{global_view, item_view, tree_view}
use Rattle.ispc_names_declarations.proofs.file_scope.globals_of.Given as goal

-- what is collected so far and what is left
abbrev pub invariant-loop-item : goal.invariant-loop-item
invariant-loop-item l = map (λ g. global_view g.now) l.globals.items ++ globals_in (map item_view (drop l.item-index l.item-items)) ≡ globals_in (tree_view l.tree)
