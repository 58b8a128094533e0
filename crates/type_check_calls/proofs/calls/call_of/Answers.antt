use Rattle.std.proofs.Common.{Vec, Global, map, ap}
use Rattle.type_check_scopes.specs.declared.passings.Passing.{Passing}
use Rattle.gang_model.specs.Types.Calls.{call_of_kind}
use Rattle.gang_model.specs.Types.Typing.{arguments}
use Rattle.source_tree.specs.Expressions.{args_view}
use Rattle.typed_tree.specs.Views.{result_view}
use Rattle.type_check_scopes.specs.Passings.{passing_view}
use Rattle.source_answers.proofs.Answered.{answers-at, answers-then}
use Rattle.gang_model.specs.Types.LibraryTable.{statement_call}
use Rattle.type_check_calls.specs.Calls.{called_view, context_view}
use Rattle.type_check_expressions.proofs.Residuals.{inside-refused}
use Rattle.type_check_calls.proofs.calls.call_of.Goals as goal

pub returns-in_err-given : goal.returns-in_err-given
returns-in_err-given c =
    let call = c.args.call.now in
    inside-refused (λ (given : Vec Passing Global). map passing_view given.items) called_view c.in_err-given.field-0.0 c.from_residual.result (arguments (args_view call.args.now) c.args.scope.now.entries)
    (λ given. call_of_kind (statement_call call.name.now) (context_view c.args.context.now) call.place call.name.now given (result_view c.args.result_for) c.args.step)
    c.from_residual.ensures.1 c.in_err-given.ensures

pub returns : goal.returns
returns c =
    let call = c.args.call.now in
    answers-then called_view c.call_of_kind.result (arguments (args_view call.args.now) c.args.scope.now.entries) (map passing_view c.in_ok-given.given.items)
    (λ given. call_of_kind (statement_call call.name.now) (context_view c.args.context.now) call.place call.name.now given (result_view c.args.result_for) c.args.step)
    c.in_ok-given.ensures
    (answers-at called_view c.call_of_kind.result _ _ c.call_of_kind.ensures
    (ap (λ kind. call_of_kind kind (context_view c.args.context.now) call.place call.name.now (map passing_view c.in_ok-given.given.items) (result_view c.args.result_for) c.args.step)
    c.statement_call.ensures))
