-- the items so far, and those of the elements that are left
use Rattle.std.proofs.Common.{◌≡◌, ◌≤◌, ◌+◌, ◌++◌, ◌-◌, drop, length}
use Rattle.prompt_texts.specs.Items.{are_cut, element_items, groups, kept, placed}
use Rattle.prompt_texts.proofs.told.told_elements.Given as goal

abbrev pub invariant-loop-at : goal.invariant-loop-at
invariant-loop-at l =
    (l.at ≤ length l.words)
    × (element_items l.layout l.from l.words ≡ l.items.items ++ placed (l.from + l.at) (kept l.layout.repeats l.left (groups l.layout.repeats (drop l.at l.words))))
    × (are_cut l.layout.repeats l.layout.elements (groups l.layout.repeats l.words) ≡ are_cut l.layout.repeats l.left (groups l.layout.repeats (drop l.at l.words)))

abbrev pub decreases-loop-at : goal.decreases-loop-at
decreases-loop-at l = length l.words - l.at
