use Rattle.source_answers.specs.Answers.{Answers}
use Rattle.type_check_expressions.specs.Arguments.{passings_view}
use Rattle.type_check_expressions.proofs.ArgumentLists.{first_arguments}
use Rattle.type_check_expressions.proofs.expressions.+expression.Given as goal

-- the arguments so far are judged
abbrev pub invariant-expression-loop-arg : goal.invariant-expression-loop-arg
invariant-expression-loop-arg l = Answers passings_view l.given (first_arguments l.arg-index l.arg-items l.scope.entries)
