-- The statements of a block and the segments of a switch, as the program holds them.
use Rattle.std.proofs.Common.{◌≡◌, ℕ, ◌+◌, ◌<◌, List, ◌∷◌, length, get_or, drop, refl, ap, sym, ◌∙◌, Vec, Box, Global}
use Rattle.std.proofs.lemmas.List.{drop_more}
use Rattle.typed_tree.specs.declared.expressions.Expr.{Expr}
use Rattle.gang_model.specs.Types.Tree as t
use Rattle.typed_tree.specs.declared.statements.Stmt.{Stmt, Block, Block', Switch, Switch', Row_of-Stmt, end_of-Stmt, more_of-Stmt, items-the_row-Stmt, items_shown-the_row-Stmt-0, items_hidden-the_row-Stmt-0, Row_of-Segment, end_of-Segment, more_of-Segment, items-the_row-Segment, items_hidden-the_row-Segment-1}
use Rattle.typed_tree.specs.declared.statements.Segment.{Segment}
use Rattle.typed_tree.specs.Views.{boxed_view, row_view, segment_row_view, segments_view, stmt_view, stmts_view}

row_view_items : (n : _) (row : Row_of-Stmt n) → row_view row ≡ stmts_view (items-the_row-Stmt n row)
row_view_items n end_of-Stmt = refl
row_view_items n (more_of-Stmt s ss) = ap (t.Then (stmt_view s)) (row_view_items _ ss)

segment_row_view_items : (n : _) (row : Row_of-Segment n) → segment_row_view row ≡ segments_view (items-the_row-Segment n row)
segment_row_view_items n end_of-Segment = refl
segment_row_view_items n (more_of-Segment label shape body segments) =
    ap (t.Segment label (row_view body)) (segment_row_view_items _ segments)
    ∙ ap (λ s. t.Segment label s (segments_view (items-the_row-Segment _ segments))) (row_view_items _ body ∙ ap stmts_view (sym (items_shown-the_row-Stmt-0 shape body)))

-- a statement of the program, a block by the list of its statements, and a switch by that of its segments
abbrev listed_view : Stmt → t.Stmt
listed_view (Block' _ row) = stmts_view (items-the_row-Stmt _ row)
listed_view (Switch' n e _ row) = t.Switch n (boxed_view e) (segments_view (items-the_row-Segment _ row))
listed_view s = stmt_view s

as_listed : (s : Stmt) → stmt_view s ≡ listed_view s
as_listed (Block' _ row) = row_view_items _ row
as_listed (Switch' n e _ row) = ap (t.Switch n (boxed_view e)) (segment_row_view_items _ row)
as_listed s = refl

pub view_block : (v : Vec Stmt Global) → stmt_view (Block v) ≡ stmts_view v.items
view_block v = as_listed (Block v) ∙ ap stmts_view (items_hidden-the_row-Stmt-0 v)

pub view_switch : (n : ℕ) (e : Box Expr Global) (v : Vec Segment Global) → stmt_view (Switch n e v) ≡ t.Switch n (boxed_view e) (segments_view v.items)
view_switch n e v = as_listed (Switch n e v) ∙ ap (λ (ss : List Segment). t.Switch n (boxed_view e) (segments_view ss)) (items_hidden-the_row-Segment-1 v)

-- ---- the segments of a switch, one after another

-- a switch's view, from the list that is walked
pub switch_is : (s : Stmt) (n : ℕ) (e : Box Expr Global) (v : Vec Segment Global) (items : List Segment) → s ≡ Switch n e v → items ≡ v.items
    → stmt_view s ≡ t.Switch n (boxed_view e) (segments_view items)
switch_is s n e v items is same = ap stmt_view is ∙ view_switch n e v ∙ ap (λ (ss : List Segment). t.Switch n (boxed_view e) (segments_view ss)) (sym same)

-- the segments from the i-th on
pub segments_from : (items : List Segment) (i : ℕ) (x : Segment) → i < length items → x ≡ get_or items i x
    → segments_view (drop i items) ≡ t.Segment x.label (stmts_view x.body.items) (segments_view (drop (i + 1) items))
segments_from items i x below is = ap segments_view (drop_more items i x below ∙ ap (λ y. y ∷ drop (i + 1) items) (sym is))
