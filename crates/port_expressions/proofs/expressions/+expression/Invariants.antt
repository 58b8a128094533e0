use Rattle.port_expressions.proofs.expressions.+expression.Given as goal

abbrev pub decreases-expression : goal.decreases-expression
decreases-expression l = l.depth

abbrev pub decreases-inner_assignment : goal.decreases-inner_assignment
decreases-inner_assignment l = l.depth

abbrev pub decreases-joined : goal.decreases-joined
decreases-joined l = l.depth

abbrev pub decreases-guarded : goal.decreases-guarded
decreases-guarded l = l.depth

abbrev pub decreases-joined_operands : goal.decreases-joined_operands
decreases-joined_operands l = l.depth

abbrev pub decreases-operand : goal.decreases-operand
decreases-operand l = l.depth

abbrev pub decreases-group : goal.decreases-group
decreases-group l = l.depth

abbrev pub decreases-changed : goal.decreases-changed
decreases-changed l = l.depth

abbrev pub decreases-call_value : goal.decreases-call_value
decreases-call_value l = l.depth

abbrev pub decreases-call : goal.decreases-call
decreases-call l = l.depth

abbrev pub decreases-argument : goal.decreases-argument
decreases-argument l = l.depth

abbrev pub decreases-target : goal.decreases-target
decreases-target l = l.depth
