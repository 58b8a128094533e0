use Rattle.std.proofs.Common.{◌∙◌, ap}
use Rattle.gang_model.specs.Source.Judged.{least_fault}
use Rattle.gang_model.specs.Names.NameFaults.{unknown_name}
use Rattle.ispc_names_declarations.proofs.Merging.{pair_fault}
use Rattle.ispc_names_expressions.proofs.parts.target_fault.Goals as goal

pub returns : goal.returns
returns c =
    pair_fault _ _ _ _ _
    (c.unknown_name-in_name.ensures ∙ ap (λ n. least_fault (unknown_name c.args.scopes.now.environment c.args.target.now.place n)) c.deref.ensures.value)
    c.some_expression_fault.ensures c.least.ensures
