use Rattle.std.proofs.Common.{◌+◌, ◌*◌, length}
use Rattle.expression_code.specs.Code.{code_of}
use Rattle.expression_code.proofs.emission.+emission.Given as goal

abbrev pub decreases-emit : goal.decreases-emit
decreases-emit l = 3 * length (code_of l.expression.now) + 1

abbrev pub decreases-emit_other : goal.decreases-emit_other
decreases-emit_other l = 3 * length (code_of l.expression.now)

abbrev pub decreases-emit_arm : goal.decreases-emit_arm
decreases-emit_arm l = 3 * length (code_of l.expression.now) + 2
