-- The items of a tree, one after another.
use Rattle.std.proofs.Common.{ℕ, suc, ◌+◌, ◌<◌, ◌≡◌, Bool, true, false, List, [], ◌∷◌, ◌++◌, Some, refl, sym, ap, ◌∙◌, arith, length, get_or, take, drop, map}
use Rattle.std.specs.Prelude.{if◌then◌else◌}
use Rattle.std.proofs.lemmas.List.{take_more, drop_more}
use Rattle.gang_types.specs.declared.places.VarId.TheVariants.{File}
use Rattle.gang_model.specs.Source.Names.{same_text}
use Rattle.gang_model.specs.Source.Parsed.{Name, ParsedFunction, functions_in, globals_in}
use Rattle.gang_model.specs.Names.Scope.{Binding, declaration, file_bindings}
use Rattle.source_tree.specs.declared.tree.Function.{Function}
use Rattle.source_tree.specs.declared.tree.GlobalVariable.{GlobalVariable}
use Rattle.source_tree.specs.declared.tree.Item.{Item}
use Rattle.source_tree.specs.declared.tree.Item.TheVariants as item
use Rattle.source_tree.specs.Tree.{item_view, function_view}

-- the functions among items
abbrev pub functions : List Item → List ParsedFunction
functions items = functions_in (map item_view items)

functions-function : (xs : List Item) (f : Function) → functions (xs ++ item.Function f ∷ []) ≡ functions xs ++ function_view f ∷ []
functions-function [] f = refl
functions-function (item.Function g ∷ xs) f = ap (λ fs. function_view g ∷ fs) (functions-function xs f)
functions-function (item.Global g ∷ xs) f = functions-function xs f

functions-global : (xs : List Item) (g : GlobalVariable) → functions (xs ++ item.Global g ∷ []) ≡ functions xs
functions-global [] g = refl
functions-global (item.Function f ∷ xs) g = ap (λ fs. function_view f ∷ fs) (functions-global xs g)
functions-global (item.Global h ∷ xs) g = functions-global xs g

module _ (xs : List Item) (i : ℕ) (x : Item) (lt : i < length xs) (is : x ≡ get_or xs i x) where
  up_to_here : take (i + 1) xs ≡ take i xs ++ x ∷ []
  up_to_here = take_more xs i x lt ∙ ap (λ z. take i xs ++ z ∷ []) (sym is)

  from_here : drop i xs ≡ x ∷ drop (i + 1) xs
  from_here = drop_more xs i x lt ∙ ap (λ z. z ∷ drop (i + 1) xs) (sym is)

  pub functions-more : (f : Function) → x ≡ item.Function f → functions (take (i + 1) xs) ≡ functions (take i xs) ++ function_view f ∷ []
  functions-more f e = ap functions (up_to_here ∙ ap (λ z. take i xs ++ z ∷ []) e) ∙ functions-function (take i xs) f

  pub functions-same : (g : GlobalVariable) → x ≡ item.Global g → functions (take (i + 1) xs) ≡ functions (take i xs)
  functions-same g e = ap functions (up_to_here ∙ ap (λ z. take i xs ++ z ∷ []) e) ∙ functions-global (take i xs) g

-- the variables among items, numbered from n on
abbrev pub file_from : ℕ → List Item → List Binding
file_from n items = file_bindings n (globals_in (map item_view items))

module _ (xs : List Item) (i n : ℕ) (x : Item) (name : Name) (lt : i < length xs) (is : x ≡ get_or xs i x) where
  here : drop i xs ≡ x ∷ drop (i + 1) xs
  here = drop_more xs i x lt ∙ ap (λ z. z ∷ drop (i + 1) xs) (sym is)

  found_by : (g : GlobalVariable) → x ≡ item.Global g → (b : Bool) → same_text g.name.items name ≡ b
      → declaration (file_from n (drop i xs)) name ≡ (if b then Some (File n) else declaration (file_from (suc n) (drop (i + 1) xs)) name)
  found_by g e b said =
      ap (λ ys. declaration (file_from n ys) name) (here ∙ ap (λ z. z ∷ drop (i + 1) xs) e)
      ∙ ap (λ t. if t then Some (File n) else declaration (file_from (suc n) (drop (i + 1) xs)) name) said

  pub file-found : (g : GlobalVariable) → x ≡ item.Global g → same_text g.name.items name ≡ true → declaration (file_from n (drop i xs)) name ≡ Some (File n)
  file-found g e said = found_by g e true said

  pub file-later : (g : GlobalVariable) → x ≡ item.Global g → same_text g.name.items name ≡ false
      → declaration (file_from (n + 1) (drop (i + 1) xs)) name ≡ declaration (file_from n (drop i xs)) name
  file-later g e said =
      let next : n + 1 ≡ suc n = omega arith in
      ap (λ m. declaration (file_from m (drop (i + 1) xs)) name) next ∙ sym (found_by g e false said)

  pub file-apart : (f : Function) → x ≡ item.Function f → declaration (file_from n (drop (i + 1) xs)) name ≡ declaration (file_from n (drop i xs)) name
  file-apart f e = sym (ap (λ ys. declaration (file_from n ys) name) (here ∙ ap (λ z. z ∷ drop (i + 1) xs) e))
