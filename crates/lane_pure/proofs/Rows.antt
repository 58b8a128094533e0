-- The statements of a block, as the program holds them.
use Rattle.std.proofs.Common.{◌≡◌, ℕ, ◌+◌, ◌<◌, List, ◌∷◌, length, get_or, drop, ap, sym, ◌∙◌, Vec, Global}
use Rattle.std.proofs.lemmas.List.{drop_more}
use Rattle.gang_model.specs.Types.Tree.{Then}
use Rattle.typed_tree.specs.declared.statements.Stmt.{Stmt, Block}
use Rattle.typed_tree.specs.Views.{stmt_view, stmts_view}
use Rattle.typed_tree.proofs.StatementRows.{view_block}

-- a block's view, from the list that is walked
pub block_is : (s : Stmt) (v : Vec Stmt Global) (items : List Stmt) → s ≡ Block v → items ≡ v.items → stmt_view s ≡ stmts_view items
block_is s v items is same = ap stmt_view is ∙ view_block v ∙ ap stmts_view (sym same)

-- the statements from the i-th on
pub stmts_from : (items : List Stmt) (i : ℕ) (x : Stmt) → i < length items → x ≡ get_or items i x → stmts_view (drop i items) ≡ Then (stmt_view x) (stmts_view (drop (i + 1) items))
stmts_from items i x below is = ap stmts_view (drop_more items i x below ∙ ap (λ y. y ∷ drop (i + 1) items) (sym is))
