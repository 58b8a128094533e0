use Rattle.std.proofs.Common.{◌≡◌, ◌+◌, false, map, drop, length}
use Rattle.std.specs.Prelude.{replicate}
use Rattle.gang_model.specs.Source.Parsed.{functions_in}
use Rattle.source_tree.specs.Tree.{tree_view, item_view}
use Rattle.typed_tree.specs.Views.{function_view}
use Rattle.lane_pure.specs.Found.{IsListed, with_impure}
use Rattle.lane_pure.proofs.functions.impure_by_themselves.Given as goal

-- those of the functions that are left are still to be marked, and there is a typed function for each
abbrev pub invariant-loop-item : goal.invariant-loop-item
invariant-loop-item l =
    (with_impure l.number (functions_in (map item_view (drop l.item-index l.item-items))) (map function_view (drop l.number l.functions)) l.found.marks.items
    ≡ with_impure 0 (functions_in (tree_view l.tree)) (map function_view l.functions) (replicate (length l.functions) false))
    × (l.number + length (functions_in (map item_view (drop l.item-index l.item-items))) ≡ length l.functions)
    × IsListed l.found.marks.items l.found.order.items
