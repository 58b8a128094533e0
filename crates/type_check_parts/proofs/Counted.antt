-- The steps of statements that lie in a Vec.
use Rattle.std.proofs.Common.{◌≡◌, ◌+◌, List, ap, ◌∙◌, Vec, Global, sym}
use Rattle.gang_types.specs.declared.places.Place.{Place}
use Rattle.gang_model.specs.Running.Numbering.{steps_in, steps_in_all, steps_in_segments}
use Rattle.source_tree.specs.declared.expressions.Expr.{Expr}
use Rattle.source_tree.specs.declared.tree.Stmt.{Stmt, Block, Switch}
use Rattle.source_tree.specs.declared.tree.Segment.{Segment}
use Rattle.source_tree.specs.Tree.{segments_view, stmt_view, stmts_view}
use Rattle.source_tree.proofs.StatementRows.{view_block, view_switch}

pub steps-block : (s : Stmt) (v : Vec Stmt Global) (items : List Stmt) → s ≡ Block v → items ≡ v.items → steps_in (stmt_view s) ≡ steps_in_all (stmts_view items)
steps-block s v items is same = ap (λ x. steps_in (stmt_view x)) is ∙ (ap steps_in (view_block v) ∙ ap (λ xs. steps_in_all (stmts_view xs)) (sym same))

pub steps-switch : (s : Stmt) (p : Place) (e : Expr) (v : Vec Segment Global) (items : List Segment) → s ≡ Switch p e v → items ≡ v.items
    → steps_in (stmt_view s) ≡ 1 + steps_in_segments (segments_view items)
steps-switch s p e v items is same =
    ap (λ x. steps_in (stmt_view x)) is ∙ (ap steps_in (view_switch p e v) ∙ ap (λ xs. 1 + steps_in_segments (segments_view xs)) (sym same))
