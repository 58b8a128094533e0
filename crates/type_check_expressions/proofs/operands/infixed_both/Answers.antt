use Rattle.std.proofs.Common.{ap, sym}
use Rattle.std.specs.Prelude.{Ok}
use Rattle.gang_model.specs.Types.Conversions.{infixed}
use Rattle.gang_model.specs.Source.Judged.{Sound}
use Rattle.type_check_values.specs.Views.{typed_view}
use Rattle.type_check_expressions.proofs.Residuals.{pair-refused, pair-sound}
use Rattle.type_check_expressions.proofs.operands.infixed_both.Goals as goal

pub returns-in_err-left : goal.returns-in_err-left
returns-in_err-left c of_left of_right h i =
    pair-refused typed_view typed_view typed_view c.args.left c.args.right of_left of_right (λ operands. Sound (infixed c.args.operator operands.0 operands.1))
    c.in_err-left.field-0.0 c.from_residual.result c.from_residual.ensures.1 c.in_err-left.ensures h i

pub returns : goal.returns
returns c of_left of_right h i =
    pair-sound typed_view typed_view typed_view c.args.left c.args.right of_left of_right (λ operands. Sound (infixed c.args.operator operands.0 operands.1))
    c.in_ok-left.left c.in_ok-left.right (Ok c.in_ok-infixed.field-0) c.in_ok-left.ensures h i
    (ap Sound (sym c.in_ok-infixed.ensures.infixed))
