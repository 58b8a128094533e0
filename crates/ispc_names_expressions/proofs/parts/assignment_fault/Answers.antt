use Rattle.ispc_names_declarations.proofs.Merging.{pair_fault}
use Rattle.ispc_names_expressions.proofs.parts.assignment_fault.Goals as goal

pub returns : goal.returns
returns c = pair_fault _ _ _ _ _ c.target_fault-in_target.ensures c.assigned_fault.ensures c.least.ensures
