use Rattle.source_answers.specs.Answers.{Answers}
use Rattle.type_check_expressions.specs.Arguments.{passings_view}
use Rattle.type_check_expressions.proofs.ArgumentLists.{first_arguments}
use Rattle.type_check_expressions.proofs.expressions.arguments.Given as goal

-- the arguments so far are judged
abbrev pub invariant-loop-arg : goal.invariant-loop-arg
invariant-loop-arg l = Answers passings_view l.given (first_arguments l.arg-index l.args l.scope.entries)
