use Rattle.std.proofs.Common.{◌≡◌, ◌≤◌, drop, map}
use Rattle.std.specs.Prelude.{option_map}
use Rattle.gang_model.specs.Source.Parsed.{functions_in}
use Rattle.gang_model.specs.Running.Entry.{entry_from, entry_of}
use Rattle.source_tree.specs.Tree.{tree_view, item_view}
use Rattle.type_check.proofs.entry.entry_of.Given as goal

-- what is left decides, where so many functions stand before it
abbrev pub invariant-loop-item : goal.invariant-loop-item
invariant-loop-item l =
    (entry_of (tree_view l.fn.checked) (option_map (λ n. n.now) l.fn.name)
    ≡ entry_from l.number (option_map (λ n. n.now) l.fn.name) (functions_in (map item_view (drop l.item-index l.item-items))))
    × (l.number ≤ l.item-index)
