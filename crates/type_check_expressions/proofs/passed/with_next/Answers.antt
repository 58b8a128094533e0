use Rattle.std.proofs.Common.{[], ◌∷◌, ◌++◌}
use Rattle.gang_model.specs.Source.Judged.{Sound}
use Rattle.type_check_scopes.specs.Passings.{passing_view}
use Rattle.type_check_expressions.specs.Arguments.{passings_view}
use Rattle.type_check_expressions.proofs.Residuals.{pair-refused}
use Rattle.type_check_expressions.proofs.passed.with_next.Goals as goal

pub returns-in_err-given : goal.returns-in_err-given
returns-in_err-given c so_far last h i =
    pair-refused passings_view passing_view passings_view c.args.given c.args.next so_far last (λ parts. Sound (parts.0 ++ parts.1 ∷ []))
    c.in_err-given.field-0.0 c.from_residual.result c.from_residual.ensures.1 c.in_err-given.ensures h i
