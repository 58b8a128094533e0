use Rattle.source_answers.proofs.Answered.{answers-at}
use Rattle.type_check_expressions.proofs.ArgumentLists.{first_arguments-more}
use Rattle.type_check_expressions.proofs.Calls.{call-refused, call-value}
use Rattle.type_check_expressions.specs.Arguments.{passings_view}
use Rattle.type_check_expressions.proofs.expressions.+expression.Goals as goal

pub expression-loop-arg-preserved : goal.expression-loop-arg-preserved
expression-loop-arg-preserved t c =
    answers-at passings_view c.with_next-given.result _ _ (c.with_next-given.ensures _ _ c.loop-arg.invariant c.argument.ensures)
    (first_arguments-more c.deref-arg-items.result.now c.loop-arg.arg-index c.arg-item.result c.args.scope.now.entries c.loop-arg-test.true c.arg-item.is)

pub expression-returns-in_err-given-in-Call : goal.expression-returns-in_err-given-in-Call
expression-returns-in_err-given-in-Call t c =
    call-refused c.args.expr.now c.in-Call.place c.in-Call.name c.in-Call.args c.deref-arg-items.result.now c.loop-arg.arg-index c.args.scope.now.entries
    c.loop-arg.given c.in_err-given-in-Call.field-0.0 c.from_residual-in_err-given-in-Call.result
    c.in-Call.is c.deref-arg-items.ensures.value c.loop-arg-test.false c.loop-arg.invariant c.in_err-given-in-Call.was c.from_residual-in_err-given-in-Call.ensures.1

pub expression-returns-in_ok-given-in-Call : goal.expression-returns-in_ok-given-in-Call
expression-returns-in_ok-given-in-Call t c =
    call-value c.args.expr.now c.in-Call.place c.in-Call.name c.in-Call.args c.deref-arg-items.result.now c.loop-arg.arg-index c.args.scope.now.entries
    c.loop-arg.given _ c.deref-in-Call.result.now c.called_value.result
    c.in-Call.is c.deref-arg-items.ensures.value c.loop-arg-test.false c.loop-arg.invariant c.in_ok-given-in-Call.was c.deref-in-Call.ensures.value c.called_value.ensures
