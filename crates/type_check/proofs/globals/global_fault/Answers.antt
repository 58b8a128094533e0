use Rattle.std.proofs.Common.{◌∙◌, ap}
use Rattle.gang_model.specs.Source.Judged.{least_fault}
use Rattle.gang_model.specs.Types.TypeFaults.{array_faults, is_array_form, variable_faults}
use Rattle.ispc_names_declarations.proofs.Merging.{pair_fault}
use Rattle.type_check.proofs.globals.global_fault.Goals as goal

pub returns : goal.returns
returns c =
    let g = c.args.global.now in
    pair_fault (array_faults g.place g.spec (is_array_form g.form)) (variable_faults g.place g.spec) c.varying_fault.result c.variable_fault.result c.least.result
    (c.varying_fault.ensures ∙ ap (λ b. least_fault (array_faults g.place g.spec b)) c.is_array_form-is_array.ensures) c.variable_fault.ensures c.least.ensures
