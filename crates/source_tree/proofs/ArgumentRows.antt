-- Arguments that lie in a Vec.
use Rattle.std.proofs.Common.{◌≡◌, ℕ, refl, ap, ◌∙◌, Vec, Global}
use mathlib.Core.Former.{Count}
use Rattle.gang_types.specs.declared.places.Place.{Place}
use Rattle.gang_model.specs.Source.Parsed.{ParsedCall}
use Rattle.source_tree.specs.declared.expressions.Expr.{Expr, Call, Call', Row_of-Arg, end_of-Arg, more_of-Arg, items-the_row-Arg, items_hidden-the_row-Arg-0}
use Rattle.source_tree.specs.declared.expressions.Arg.{Arg}
use Rattle.source_tree.specs.Expressions.{with_arg, expr_view, arg_view, row_view, args_view}

row_view_items : (n : _) (row : Row_of-Arg n) → row_view row ≡ args_view (items-the_row-Arg n row)
row_view_items n end_of-Arg = refl
row_view_items n (more_of-Arg e es) = ap (with_arg (arg_view e)) (row_view_items _ es)

abbrev row_of : Expr → (n : Count) × Row_of-Arg n
row_of (Call' at n _ row) = (_, row)
row_of _ = (_, end_of-Arg)

pub view_call : (at : Place) (n : Vec ℕ Global) (v : Vec Arg Global) → expr_view (Call at n v) ≡ ParsedCall at n.items (args_view v.items)
view_call at n v =
    let row = row_of (Call at n v) in
    ap (ParsedCall at n.items) (row_view_items row.0 row.1 ∙ ap args_view (items_hidden-the_row-Arg-0 v))
