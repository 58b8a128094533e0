use Rattle.std.proofs.Common.{◌≡◌, ◌++◌, drop, map}
use Rattle.gang_model.specs.Source.Parsed.{functions_in}
use Rattle.source_tree.specs.Tree.{function_view, item_view, tree_view}
use Rattle.ispc_names_declarations.proofs.file_scope.functions_of.Given as goal

-- what is collected so far and what is left
abbrev pub invariant-loop-item : goal.invariant-loop-item
invariant-loop-item l = map (λ f. function_view f.now) l.functions.items ++ functions_in (map item_view (drop l.item-index l.item-items)) ≡ functions_in (tree_view l.tree)
