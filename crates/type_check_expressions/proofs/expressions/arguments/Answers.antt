use Rattle.source_answers.proofs.Answered.{answers-at}
use Rattle.type_check_expressions.proofs.ArgumentLists.{first_arguments-more, first_arguments-all}
use Rattle.type_check_expressions.specs.Arguments.{passings_view}
use Rattle.type_check_expressions.proofs.expressions.arguments.Goals as goal

pub loop-arg-preserved : goal.loop-arg-preserved
loop-arg-preserved c =
    answers-at passings_view c.with_next-given.result _ _ (c.with_next-given.ensures _ _ c.loop-arg.invariant c.argument.ensures)
    (first_arguments-more c.args.args.now c.loop-arg.arg-index c.arg-item.result c.args.scope.now.entries c.loop-arg-test.true c.arg-item.is)

pub returns : goal.returns
returns c =
    answers-at passings_view c.loop-arg.given _ _ c.loop-arg.invariant
    (first_arguments-all c.args.args.now c.loop-arg.arg-index c.args.scope.now.entries c.loop-arg-test.false)
