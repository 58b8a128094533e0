use Rattle.std.proofs.Common.{◌∙◌, ap, sym, not, true}
use Rattle.std.specs.Prelude.{if◌then◌else◌}
use Rattle.gang_model.specs.declared.refusals.RefusalNumber.TheVariants.{S5, S12}
use Rattle.gang_model.specs.Source.Judged.{fault_if, least_fault, or_later}
use Rattle.gang_model.specs.Types.LibraryTable.{is_library_name}
use Rattle.gang_model.specs.Names.NameFaults.{names_of_args, stands_whole}
use Rattle.gang_model.proofs.JudgedLaws.{least_fault-or_own}
use Rattle.source_tree.specs.Expressions.{args_view}
use Rattle.ispc_names_expressions.proofs.right_sides.call_fault.Goals as goal

pub returns : goal.returns
returns c =
    let inside = names_of_args (args_view c.args.args.now) c.args.functions.now c.args.scopes.now.environment in
    let own = if is_library_name c.args.name.now then fault_if true S12 c.args.place else fault_if (not (stands_whole c.args.functions.now c.args.name.now)) S5 c.args.place in
    c.least_inside.ensures
    ∙ (ap (λ x. or_later x c.statement_name_fault.result) c.arguments_fault-inside.ensures
    ∙ (ap (or_later (least_fault inside)) c.statement_name_fault.ensures ∙ sym (least_fault-or_own inside own)))
