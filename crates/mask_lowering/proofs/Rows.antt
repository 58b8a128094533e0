-- The statements of a block and the segments of a switch, as the program holds them, one after another.
use Rattle.std.proofs.Common.{◌≡◌, true, false, ℕ, zero, suc, ◌+◌, ◌<◌, ◌≤◌, List, [], ◌∷◌, length, get_or, drop, refl, ap, sym, ◌∙◌, arith, Vec, Box, Global}
use Rattle.std.proofs.lemmas.List.{drop_more}
use Rattle.gang_model.specs.Types.Tree.{Then}
use Rattle.gang_model.specs.Running.Step.{steps_of}
use Rattle.typed_tree.specs.declared.expressions.Expr.{Expr}
use Rattle.typed_tree.specs.declared.statements.Segment.{Segment}
use Rattle.typed_tree.specs.declared.statements.Stmt.{Stmt, Block, Switch}
use Rattle.typed_tree.specs.Views.{segments_view, stmt_view, stmts_view}
use Rattle.typed_tree.proofs.StatementRows.{segments_from, view_block, view_switch}
use Rattle.mask_lowering.specs.Lowering.{is_single}

-- a block's view, from the list that is walked
pub block_is : (s : Stmt) (v : Vec Stmt Global) (items : List Stmt) → s ≡ Block v → items ≡ v.items → stmt_view s ≡ stmts_view items
block_is s v items is same = ap stmt_view is ∙ view_block v ∙ ap stmts_view (sym same)

-- the statements from the i-th on
pub stmts_from : (items : List Stmt) (i : ℕ) (x : Stmt) → i < length items → x ≡ get_or items i x → stmts_view (drop i items) ≡ Then (stmt_view x) (stmts_view (drop (i + 1) items))
stmts_from items i x below is = ap stmts_view (drop_more items i x below ∙ ap (λ y. y ∷ drop (i + 1) items) (sym is))

pub steps_from : (items : List Stmt) (i : ℕ) (x : Stmt) → i < length items → x ≡ get_or items i x
    → steps_of (stmts_view (drop i items)) ≡ steps_of (stmt_view x) + steps_of (stmts_view (drop (i + 1) items))
steps_from items i x below is = ap steps_of (stmts_from items i x below is)

pub steps_within : (items : List Stmt) (i : ℕ) → steps_of (stmts_view (drop i items)) ≤ steps_of (stmts_view items)
steps_within [] zero = omega arith
steps_within [] (suc i) = omega arith
steps_within (x ∷ items) zero = omega arith
steps_within (x ∷ items) (suc i) = let h = steps_within items i in omega arith

-- ---- the segments of a switch

pub segment_steps_from : (items : List Segment) (i : ℕ) (x : Segment) → i < length items → x ≡ get_or items i x
    → steps_of (segments_view (drop i items)) ≡ steps_of (stmts_view x.body.items) + steps_of (segments_view (drop (i + 1) items))
segment_steps_from items i x below is = ap steps_of (segments_from items i x below is)

pub segment_steps_within : (items : List Segment) (i : ℕ) → steps_of (segments_view (drop i items)) ≤ steps_of (segments_view items)
segment_steps_within [] zero = omega arith
segment_steps_within [] (suc i) = omega arith
segment_steps_within (x ∷ items) zero = omega arith
segment_steps_within (x ∷ items) (suc i) = let h = segment_steps_within items i in omega arith

-- ---- statements that are more than a step

is_row : (items : List Stmt) → is_single (stmts_view items) ≡ false
is_row [] = refl
is_row (x ∷ items) = refl

pub block_is_row : (v : Vec Stmt Global) → is_single (stmt_view (Block v)) ≡ false
block_is_row v = ap is_single (view_block v) ∙ is_row v.items

pub switch_is_not_single : (n : ℕ) (e : Box Expr Global) (v : Vec Segment Global) → is_single (stmt_view (Switch n e v)) ≡ false
switch_is_not_single n e v = ap is_single (view_switch n e v)

pub not_both : (s form : Stmt) → s ≡ form → is_single (stmt_view form) ≡ false → is_single (stmt_view s) ≡ true → ⊥
not_both s form e no' yes' = let h : is_single (stmt_view s) ≡ is_single (stmt_view form) = ap (λ x. is_single (stmt_view x)) e in cc
