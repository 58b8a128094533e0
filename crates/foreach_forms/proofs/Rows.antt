-- The forms of statements, of segments and of functions, one after another.
use Rattle.std.proofs.Common.{◌≡◌, refl, ap, ◌∙◌, sym, ℕ, suc, ◌+◌, ◌<◌, List, [], ◌∷◌, ◌++◌, drop, get_or, length, map}
use Rattle.std.proofs.lemmas.List.{append_assoc, drop_more}
use Rattle.typed_tree.specs.declared.statements.Segment.{Segment}
use Rattle.typed_tree.specs.declared.statements.Stmt.{Stmt}
use Rattle.typed_tree.specs.declared.program.Function.{Function}
use Rattle.typed_tree.specs.Views.{function_view, segments_view, stmt_view, stmts_view}
use Rattle.typed_tree.proofs.StatementRows.{segments_from}
use Rattle.mask_lowering.proofs.Rows.{stmts_from}
use Rattle.foreach_forms.specs.declared.forms.Form.{Form}
use Rattle.ispc_names_table.specs.Scopes.{standing_view, standings_view}
use Rattle.foreach_forms.specs.Forms.{forms_from, forms_in, lines_at, lines_of}

module _ (function : ℕ) (lines : List ℕ) where
  -- the forms of the statements from the i-th on
  pub forms_more : (items : List Stmt) (i : ℕ) (x : Stmt) → i < length items → x ≡ get_or items i x
      → forms_in function lines (stmts_view (drop i items)) ≡ forms_in function lines (stmt_view x) ++ forms_in function lines (stmts_view (drop (i + 1) items))
  forms_more items i x below is = ap (forms_in function lines) (stmts_from items i x below is)

  pub segment_forms_more : (items : List Segment) (i : ℕ) (x : Segment) → i < length items → x ≡ get_or items i x
      → forms_in function lines (segments_view (drop i items)) ≡ forms_in function lines (stmts_view x.body.items) ++ forms_in function lines (segments_view (drop (i + 1) items))
  segment_forms_more items i x below is = ap (forms_in function lines) (segments_from items i x below is)

mapped : {A B C : Type 0} (f : A → B) (g : B → C) (xs : List A) → map g (map f xs) ≡ map (λ x. g (f x)) xs
mapped f g [] = refl
mapped f g (x ∷ xs) = ap (λ ys. g (f x) ∷ ys) (mapped f g xs)

-- a function's steps stand at the lines of its table
lines_same : (f : Function) → lines_of (function_view f) ≡ lines_at f.scopes.standings.items
lines_same f =
    mapped _ (λ standing. standing.place.line) (standings_view f.scopes) ∙ mapped (standing_view f.scopes.declarations.items) (λ standing. standing.place.line) f.scopes.standings.items

-- those of the functions from the i-th on
pub function_forms_more : (items : List Function) (i first : ℕ) (x : Function) → i < length items → x ≡ get_or items i x
    → forms_from first (map function_view (drop i items)) ≡ forms_in first (lines_at x.scopes.standings.items) (stmts_view x.body.items) ++ forms_from (suc first) (map function_view (drop (i + 1) items))
function_forms_more items i first x below is =
    ap (λ fs. forms_from first (map function_view fs)) (drop_more items i x below ∙ ap (λ y. y ∷ drop (i + 1) items) (sym is))
    ∙ ap (λ lines. forms_in first lines (stmts_view x.body.items) ++ forms_from (suc first) (map function_view (drop (i + 1) items))) (lines_same x)

-- what was added, and what is left to add
pub added : (old new more front rest all : List Form) → new ≡ old ++ front → old ++ more ≡ all → more ≡ front ++ rest → new ++ rest ≡ all
added old new more front rest all is so split = ap (λ l. l ++ rest) is ∙ append_assoc old front rest ∙ ap (λ l. old ++ l) (sym split) ∙ so
