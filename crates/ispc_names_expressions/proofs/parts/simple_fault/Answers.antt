use Rattle.std.specs.Prelude.{option_map}
use Rattle.std.proofs.Common.{◌∙◌, sym, ap}
use Rattle.gang_model.specs.Source.Judged.{least_fault}
use Rattle.gang_model.specs.Names.NameFaults.{right_names_of, stmt_names, twice}
use Rattle.source_tree.specs.Expressions.{expr_view}
use Rattle.ispc_names_scopes.specs.Scopes.{site}
use Rattle.source_tree.specs.Tree.{stmt_view}
use Rattle.ispc_names_expressions.specs.MayStand.{allowed_view}
use Rattle.ispc_names_declarations.proofs.Merging.{pair_fault}
use Rattle.ispc_names_expressions.proofs.parts.simple_fault.Goals as goal

pub returns-in_ok-in_name-in-Declare-clause-fault : goal.returns-in_ok-in_name-in-Declare-clause-fault
returns-in_ok-in_name-in-Declare-clause-fault c =
    let may = allowed_view c.args.functions.now c.args.may in
    let s = c.args.scopes.now in
    pair_fault (twice (site s) c.in-Declare.name_place c.in-Declare.name.items) (right_names_of (option_map expr_view c.in-Declare.value) may.functions s.environment) _ _ _
    (c.in_ok-in_name-in-Declare.ensures.fault ∙ ap (λ n. least_fault (twice (site s) c.in-Declare.name_place n)) c.deref.ensures.value)
    c.some_right_fault-in_value.ensures c.least.ensures
    ∙ sym (ap (λ x. least_fault (stmt_names (stmt_view x) may (site s))) c.in-Declare.is)
