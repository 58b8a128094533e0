use Rattle.source_tree.specs.Expressions.{expr_view}
use Rattle.gang_types.specs.declared.types.IntType.TheVariants as t
use Rattle.gang_types.specs.declared.types.Rate.TheVariants.{Uniform, Varying}
use Rattle.gang_types.specs.declared.places.VarId.TheVariants.{Local}
use Rattle.gang_model.specs.Source.Judged.{Sound}
use Rattle.gang_model.specs.Types.Typing.{given_value}
use Rattle.typed_tree.specs.Views as typed
use Rattle.type_check_expressions.proofs.Residuals.{pair-refused, pair-stands}
use Rattle.type_check_parts.proofs.rounds.dimension.Goals as goal

pub returns-in_err-low : goal.returns-in_err-low
returns-in_err-low c =
    let entries = c.args.scope.now.entries in
    pair-refused typed.boxed_view typed.boxed_view typed.dimension_view c.given_value-low.result c.given_value-high.result
    (given_value (expr_view c.args.dim.now.low) entries t.Int32 Uniform) (given_value (expr_view c.args.dim.now.high) entries t.Int32 Uniform)
    (λ bounds. Sound (record { index = record { id = Local c.args.number; type = t.Int32; rate = Varying }; low = bounds.0; high = bounds.1 }))
    c.in_err-low.field-0.0 c.from_residual.result c.from_residual.ensures.1 c.in_err-low.ensures c.given_value-low.ensures c.given_value-high.ensures

pub returns : goal.returns
returns c =
    let entries = c.args.scope.now.entries in
    pair-stands typed.boxed_view typed.boxed_view c.given_value-low.result c.given_value-high.result
    (given_value (expr_view c.args.dim.now.low) entries t.Int32 Uniform) (given_value (expr_view c.args.dim.now.high) entries t.Int32 Uniform)
    (λ bounds. Sound (record { index = record { id = Local c.args.number; type = t.Int32; rate = Varying }; low = bounds.0; high = bounds.1 }))
    c.in_ok-low.low c.in_ok-low.high c.in_ok-low.ensures c.given_value-low.ensures c.given_value-high.ensures
