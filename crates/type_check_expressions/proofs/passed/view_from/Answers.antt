use Rattle.gang_model.specs.Source.Judged.{Sound}
use Rattle.gang_model.specs.Types.Typing as typing
use Rattle.type_check_scopes.specs.Entries.{entry_view}
use Rattle.type_check_scopes.specs.Passings.{passing_view}
use Rattle.type_check_values.specs.Views.{typed_view}
use Rattle.type_check_expressions.proofs.Residuals.{pair-refused, pair-stands}
use Rattle.type_check_expressions.proofs.passed.view_from.Goals as goal

pub returns-in_err-entry : goal.returns-in_err-entry
returns-in_err-entry c of_array of_index h i =
    pair-refused entry_view typed_view passing_view c.args.array c.args.index of_array of_index (λ parts. Sound (typing.view_from c.args.place parts))
    c.in_err-entry.field-0.0 c.from_residual.result c.from_residual.ensures.1 c.in_err-entry.ensures h i

pub returns : goal.returns
returns c of_array of_index h i =
    pair-stands entry_view typed_view c.args.array c.args.index of_array of_index (λ parts. Sound (typing.view_from c.args.place parts))
    c.in_ok-entry.entry c.in_ok-entry.index c.in_ok-entry.ensures h i
