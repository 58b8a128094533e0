use Rattle.std.proofs.Common.{refl}
use Rattle.std.specs.Prelude.{Ok}
use Rattle.gang_model.specs.Source.Judged.{unless}
use Rattle.gang_model.specs.Types.Calls.{call_of, result_faults}
use Rattle.typed_tree.specs.Boxes.{boxed_stmt_view}
use Rattle.typed_tree.specs.Views.{result_view}
use Rattle.source_answers.proofs.Answered.{answers-then}
use Rattle.type_check_calls.specs.Calls.{called_view, context_view, whole_call_view}
use Rattle.type_check_expressions.proofs.Residuals.{inside-refused, own-refused, own-sound}
use Rattle.type_check_calls.proofs.calls.right_call.Goals as goal

pub returns-in_err-called : goal.returns-in_err-called
returns-in_err-called c =
    let call = whole_call_view c.args.call.now in
    let receiver = c.args.receiver in
    inside-refused called_view boxed_stmt_view c.in_err-called.field-0.0 c.from_residual.result
    (call_of (context_view c.args.context.now) c.args.scope.now.entries call.at call.name call.args (result_view receiver.result_for) c.args.step)
    (λ called. unless (result_faults receiver.place called.result receiver.rate) called.stmt) c.from_residual.ensures.1 c.in_err-called.ensures

pub returns-in_err-refuse : goal.returns-in_err-refuse
returns-in_err-refuse c =
    let call = whole_call_view c.args.call.now in
    let receiver = c.args.receiver in
    answers-then boxed_stmt_view c.from_residual-in_err-refuse.result
    (call_of (context_view c.args.context.now) c.args.scope.now.entries call.at call.name call.args (result_view receiver.result_for) c.args.step) (called_view c.in_ok-called.called)
    (λ called. unless (result_faults receiver.place called.result receiver.rate) called.stmt) c.in_ok-called.ensures
    (own-refused boxed_stmt_view c.result_fault.result c.in_err-refuse.field-0.0 c.from_residual-in_err-refuse.result
    (result_faults receiver.place c.in_ok-called.called.result receiver.rate) (boxed_stmt_view c.in_ok-called.called.stmt) c.from_residual-in_err-refuse.ensures.1 c.in_err-refuse.ensures c.result_fault.ensures)

pub returns : goal.returns
returns c =
    let call = whole_call_view c.args.call.now in
    let receiver = c.args.receiver in
    answers-then boxed_stmt_view (Ok c.in_ok-called.called.stmt)
    (call_of (context_view c.args.context.now) c.args.scope.now.entries call.at call.name call.args (result_view receiver.result_for) c.args.step) (called_view c.in_ok-called.called)
    (λ called. unless (result_faults receiver.place called.result receiver.rate) called.stmt) c.in_ok-called.ensures
    (own-sound boxed_stmt_view c.result_fault.result _ (Ok c.in_ok-called.called.stmt) (result_faults receiver.place c.in_ok-called.called.result receiver.rate) (boxed_stmt_view c.in_ok-called.called.stmt)
    c.in_ok-refuse.ensures c.result_fault.ensures refl)
