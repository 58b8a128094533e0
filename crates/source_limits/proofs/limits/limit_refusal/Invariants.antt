use Rattle.std.proofs.Common.{◌≡◌, ◌≤◌, drop, map}
use Rattle.gang_model.specs.Source.Limits.{limit_refusal, limits_passed, first_fault, most_array_words}
use Rattle.source_tree.specs.Tree.{tree_view, item_view}
use Rattle.source_limits.proofs.limits.limit_refusal.Given as goal

-- what is left decides, after arrays of so many words
abbrev pub invariant-loop-item : goal.invariant-loop-item
invariant-loop-item l =
    (limit_refusal (tree_view l.fn.tree) ≡ first_fault (limits_passed l.words (map item_view (drop l.item-index l.item-items)))) × (l.words ≤ most_array_words)
