use Rattle.type_check_expressions.proofs.TwoFaults.{two-faults}
use Rattle.type_check_expressions.proofs.passed.view_index_fault.Goals as goal

pub returns : goal.returns
returns c =
    two-faults _ _ _ _ _ c.fault_if-varying.result _ _ _ _ _ c.fault_if-is_truth.result c.least.result
    c.fault_if-varying.ensures c.is_varying.ensures c.first_of.ensures c.fault_if-is_truth.ensures c.is_bool.ensures c.first_of-2.ensures c.least.ensures
