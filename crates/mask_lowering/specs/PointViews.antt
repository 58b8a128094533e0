-- A point of the program, as the definition has it.
use Rattle.std.specs.Prelude.{map}
use Rattle.typed_tree.specs.Views.{arg_view, expr_view, result_view, rounds_view, segments_view, stmt_view}
use Rattle.mask_states.specs.Points as p
use Rattle.mask_lowering.specs.declared.point.Point.{Point}
use Rattle.mask_lowering.specs.declared.point.Point.TheVariants.{Put, Go, Branch, Choose, Begin, Turn, Enter}

abbrev pub point_view : Point → p.Point
point_view (Put statement next) = p.Put (stmt_view statement.now) next
point_view (Go next) = p.Go next
point_view (Branch test yes' no') = p.Branch (expr_view test.now) yes' no'
point_view (Choose selector segments entries next) = p.Choose (expr_view selector.now) (segments_view segments.now) entries.items next
point_view (Begin form rounds next) = p.Begin (rounds_view form.now) rounds next
point_view (Turn body) = p.Turn body
point_view (Enter function args result_for next) = p.Enter function (map arg_view args.now) (result_view result_for) next
