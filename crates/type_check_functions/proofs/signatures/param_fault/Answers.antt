use Rattle.std.proofs.Common.{◌∙◌, ap}
use Rattle.std.specs.Prelude.{◌||◌}
use Rattle.gang_model.specs.Source.Judged.{least_fault}
use Rattle.gang_model.specs.Types.TypeFaults.{array_faults, variable_faults}
use Rattle.ispc_names_declarations.proofs.Merging.{pair_fault}
use Rattle.type_check_functions.proofs.signatures.param_fault.Goals as goal

pub returns : goal.returns
returns c =
    let p = c.args.param.now in
    pair_fault (array_faults p.place p.spec (p.is_array || c.args.is_exported)) (variable_faults p.place p.spec) c.varying_fault.result c.variable_fault.result c.least.result
    (c.varying_fault.ensures ∙ ap (λ b. least_fault (array_faults p.place p.spec b)) c.has_to_be_uniform-has_to_be_uniform.ensures) c.variable_fault.ensures c.least.ensures
