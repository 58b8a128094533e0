use Rattle.std.proofs.Common.{◌≡◌, drop}
use Rattle.gang_model.specs.Source.Judged.{least_fault, merged, or_later}
use Rattle.gang_model.specs.Names.NameFaults.{names_in, inner_call}
use Rattle.source_tree.specs.Expressions.{expr_view}
use Rattle.ispc_names_expressions.proofs.ArgumentFaults.{in_args}
use Rattle.ispc_names_expressions.proofs.expressions.+expression.Given as goal

-- what is found in the arguments so far and what is left decide
abbrev pub invariant-expression_fault-loop-arg : goal.invariant-expression_fault-loop-arg
invariant-expression_fault-loop-arg l =
    least_fault (names_in (expr_view l.fn.expr) l.functions l.scopes.environment)
    ≡ or_later (merged l.inside (in_args (drop l.arg-index l.arg-items) l.functions l.scopes.environment)) (least_fault (inner_call l.functions l.place l.name.items))
