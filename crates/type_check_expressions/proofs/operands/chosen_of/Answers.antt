use Rattle.std.proofs.Common.{ap, sym}
use Rattle.std.specs.Prelude.{Ok}
use Rattle.gang_model.specs.Types.Conversions.{chosen_by}
use Rattle.gang_model.specs.Source.Judged.{Sound, both}
use Rattle.source_answers.specs.Answers.{pair_view}
use Rattle.type_check_values.specs.Views.{typed_view}
use Rattle.source_answers.proofs.Answered.{answers-pair}
use Rattle.type_check_expressions.proofs.Residuals.{pair-refused, pair-sound}
use Rattle.type_check_expressions.proofs.operands.chosen_of.Goals as goal

pub returns-in_err-test : goal.returns-in_err-test
returns-in_err-test c of_test of_first of_second h i k =
    pair-refused typed_view (pair_view typed_view typed_view) typed_view c.args.test c.both.result of_test (both of_first of_second)
    (λ parts. Sound (chosen_by parts.0 parts.1.0 parts.1.1))
    c.in_err-test.field-0.0 c.from_residual.result c.from_residual.ensures.1 c.in_err-test.ensures h
    (answers-pair typed_view typed_view c.args.first c.args.second c.both.result of_first of_second c.both.ensures i k)

pub returns : goal.returns
returns c of_test of_first of_second h i k =
    pair-sound typed_view (pair_view typed_view typed_view) typed_view c.args.test c.both.result of_test (both of_first of_second)
    (λ parts. Sound (chosen_by parts.0 parts.1.0 parts.1.1))
    c.in_ok-test.test (c.in_ok-test.first, c.in_ok-test.second) (Ok c.in_ok-chosen_by.field-0) c.in_ok-test.ensures h
    (answers-pair typed_view typed_view c.args.first c.args.second c.both.result of_first of_second c.both.ensures i k)
    (ap Sound (sym c.in_ok-chosen_by.ensures.chosen))
