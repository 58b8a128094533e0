use Rattle.std.proofs.Common.{refl}
use Rattle.type_check_expressions.proofs.TwoFaults.{two-faults}
use Rattle.type_check_expressions.proofs.elements.element_fault.Goals as goal

pub returns : goal.returns
returns c =
    two-faults _ _ _ _ _ c.fault_if-no_element.result _ _ _ _ _ c.fault_if-bool_index.result c.least.result
    c.fault_if-no_element.ensures c.has_no_element.ensures refl c.fault_if-bool_index.ensures c.is_bool.ensures c.first_of.ensures c.least.ensures
