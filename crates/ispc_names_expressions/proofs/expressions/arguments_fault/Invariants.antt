use Rattle.gang_model.specs.Source.Judged.{merged}
use Rattle.std.proofs.Common.{◌≡◌, drop}
use Rattle.ispc_names_expressions.proofs.ArgumentFaults.{in_args}
use Rattle.ispc_names_expressions.proofs.expressions.arguments_fault.Given as goal

-- what is found so far and what is left decide
abbrev pub invariant-loop-arg : goal.invariant-loop-arg
invariant-loop-arg l = in_args l.fn.args l.functions l.scopes.environment ≡ merged l.first (in_args (drop l.arg-index l.args) l.functions l.scopes.environment)
