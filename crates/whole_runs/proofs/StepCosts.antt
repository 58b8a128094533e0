-- Steps that are left of a run, counted as they are done again.
use Rattle.std.proofs.Common.{◌≡◌, ◌<◌, ◌≤◌, ◌+◌, ℕ, List, [], ◌∷◌, length, drop, get_or, ◌∙◌, arith}
use Rattle.std.proofs.lemmas.List.{at_drop_more, at_drop_all}
use Rattle.whole_runs.specs.declared.notes.NotedPoke.{NotedPoke}
use Rattle.whole_runs.specs.Costs.{steps_left}

-- those between the pokes, and those after the last one
pub left_split : (notes : List NotedPoke) (steps : ℕ) → steps_left notes steps 0 ≡ steps_left notes 0 0 + steps
left_split [] steps = omega arith
left_split (note ∷ notes) steps = let rest = left_split notes steps in omega (arith, rest)

-- those before the next poke, and the rest
pub left_next : (notes : List NotedPoke) (i : ℕ) (any : NotedPoke) → i < length notes
    → steps_left (drop i notes) 0 0 ≡ (get_or notes i any).steps + steps_left (drop (i + 1) notes) 0 0
left_next notes i any inside = at_drop_more (λ xs. steps_left xs 0 0) notes i any inside ∙ (omega arith)

-- none
pub left_end : (notes : List NotedPoke) (i : ℕ) → length notes ≤ i → steps_left (drop i notes) 0 0 ≡ 0
left_end notes i all = at_drop_all (λ xs. steps_left xs 0 0) notes i all ∙ (omega arith)
