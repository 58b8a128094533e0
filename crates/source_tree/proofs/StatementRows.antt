-- Statements that lie in a Vec.
use Rattle.std.proofs.Common.{◌≡◌, List, refl, sym, ap, ◌∙◌, Vec, Global}
use Rattle.gang_types.specs.declared.places.Place.{Place}
use Rattle.gang_model.specs.Source.Parsed.{ParsedStmt, ParsedBlock, ParsedSwitch, ParsedStmts, ParsedNext, ParsedSegment}
use Rattle.source_tree.specs.declared.tree.Stmt.{Stmt, Block, Block', Switch, Switch', Row_of-Stmt, end_of-Stmt, more_of-Stmt, items-the_row-Stmt, items_shown-the_row-Stmt-0, items_hidden-the_row-Stmt-0, Row_of-Segment, end_of-Segment, more_of-Segment, items-the_row-Segment, items_hidden-the_row-Segment-1}
use Rattle.source_tree.specs.declared.tree.Segment.{Segment}
use Rattle.source_tree.specs.declared.expressions.Expr.{Expr}
use Rattle.source_tree.specs.Expressions.{expr_view}
use Rattle.source_tree.specs.Tree.{stmt_view, row_view, segment_row_view, stmts_view, segments_view}

row_view_items : (n : _) (row : Row_of-Stmt n) → row_view row ≡ stmts_view (items-the_row-Stmt n row)
row_view_items n end_of-Stmt = refl
row_view_items n (more_of-Stmt s ss) = ap (ParsedNext (stmt_view s)) (row_view_items _ ss)

segment_row_view_items : (n : _) (row : Row_of-Segment n) → segment_row_view row ≡ segments_view (items-the_row-Segment n row)
segment_row_view_items n end_of-Segment = refl
segment_row_view_items n (more_of-Segment at label shape ss segments) =
    ap (ParsedSegment at label (row_view ss)) (segment_row_view_items _ segments)
    ∙ ap (λ (body : ParsedStmts). ParsedSegment at label body (segments_view (items-the_row-Segment _ segments))) (row_view_items _ ss ∙ sym (ap stmts_view (items_shown-the_row-Stmt-0 shape ss)))

-- a statement as it is written, a block by the list of its statements and a `switch` by that of its segments
abbrev listed_view : Stmt → ParsedStmt
listed_view (Block' _ row) = ParsedBlock (stmts_view (items-the_row-Stmt _ row))
listed_view (Switch' at e _ row) = ParsedSwitch at (expr_view e) (segments_view (items-the_row-Segment _ row))
listed_view s = stmt_view s

as_listed : (s : Stmt) → stmt_view s ≡ listed_view s
as_listed (Block' _ row) = ap ParsedBlock (row_view_items _ row)
as_listed (Switch' at e _ row) = ap (ParsedSwitch at (expr_view e)) (segment_row_view_items _ row)
as_listed s = refl

pub view_block : (v : Vec Stmt Global) → stmt_view (Block v) ≡ ParsedBlock (stmts_view v.items)
view_block v = as_listed (Block v) ∙ ap (λ (ss : List Stmt). ParsedBlock (stmts_view ss)) (items_hidden-the_row-Stmt-0 v)

pub view_switch : (at : Place) (e : Expr) (v : Vec Segment Global) → stmt_view (Switch at e v) ≡ ParsedSwitch at (expr_view e) (segments_view v.items)
view_switch at e v = as_listed (Switch at e v) ∙ ap (λ (segments : List Segment). ParsedSwitch at (expr_view e) (segments_view segments)) (items_hidden-the_row-Segment-1 v)
