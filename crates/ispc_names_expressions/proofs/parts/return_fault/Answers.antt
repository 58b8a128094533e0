use Rattle.ispc_names_declarations.proofs.Merging.{pair_fault}
use Rattle.ispc_names_expressions.proofs.parts.return_fault.Goals as goal

pub returns : goal.returns
returns c = pair_fault _ _ _ _ _ c.fault_if-own.ensures c.some_right_fault.ensures c.least.ensures
