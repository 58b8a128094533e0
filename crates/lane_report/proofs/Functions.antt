-- The functions among the items of a source, from one item on.
use Rattle.std.proofs.Common.{◌≡◌, ℕ, ◌+◌, ◌<◌, List, ◌∷◌, length, map, drop, get_or, sym, ap, ◌∙◌}
use Rattle.std.proofs.lemmas.List.{drop_more}
use Rattle.gang_model.specs.Source.Parsed.{ParsedFunction, functions_in}
use Rattle.source_tree.specs.declared.tree.Function.{Function}
use Rattle.source_tree.specs.declared.tree.GlobalVariable.{GlobalVariable}
use Rattle.source_tree.specs.declared.tree.Item.{Item}
use Rattle.source_tree.specs.declared.tree.Item.TheVariants as item
use Rattle.source_tree.specs.Tree.{function_view, item_view}

abbrev pub functions_from : List Item → ℕ → List ParsedFunction
functions_from items i = functions_in (map item_view (drop i items))

module _ (items : List Item) (i : ℕ) (x : Item) (below : i < length items) (at : x ≡ get_or items i x) where
  -- the first of them is this item
  pub function_first : (f : Function) → x ≡ item.Function f → functions_from items i ≡ function_view f ∷ functions_from items (i + 1)
  function_first f is = ap (λ xs. functions_in (map item_view xs)) (drop_more items i x below ∙ ap (λ y. y ∷ drop (i + 1) items) (sym at ∙ is))

  -- or this item is none
  pub variable_first : (g : GlobalVariable) → x ≡ item.Global g → functions_from items i ≡ functions_from items (i + 1)
  variable_first g is = ap (λ xs. functions_in (map item_view xs)) (drop_more items i x below ∙ ap (λ y. y ∷ drop (i + 1) items) (sym at ∙ is))
