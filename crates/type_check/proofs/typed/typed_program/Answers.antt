use Rattle.std.proofs.Common.{◌∙◌, ap, map, List}
use Rattle.gang_model.specs.Source.Judged.{Sound}
use Rattle.gang_model.specs.Source.Parsed.{functions_in, globals_in}
use Rattle.gang_model.specs.Types.Resolved.{global_entries, judged_functions, judged_globals}
use Rattle.gang_model.specs.Types.Tree as tree
use Rattle.source_tree.specs.Tree.{tree_view}
use Rattle.typed_tree.specs.Views as typed
use Rattle.source_answers.proofs.Answered.{answers-at}
use Rattle.type_check_functions.proofs.FunctionParts as functions
use Rattle.type_check.proofs.GlobalParts as globals
use Rattle.type_check_expressions.proofs.Residuals.{pair-refused}
use Rattle.type_check.proofs.typed.typed_program.Goals as goal

pub returns-in_err-globals-2-clause-program : goal.returns-in_err-globals-2-clause-program
returns-in_err-globals-2-clause-program c =
    let source = tree_view c.args.tree.now in
    let in_file = c.in_ok-globals.ensures.globals in
    pair-refused (λ made. map typed.global_view made.items) (λ made. map typed.function_view made.items) typed.program_view c.typed_globals-globals.result c.typed_functions-functions.result
    (judged_globals 0 (globals_in source)) (judged_functions source (functions_in source))
    (λ (parts : List tree.Global × List tree.Function). Sound (record { functions = parts.1; globals = parts.0 })) c.in_err-globals-2.field-0.0 c.from_residual-in_err-globals-2.result
    c.from_residual-in_err-globals-2.ensures.1 c.in_err-globals-2.ensures
    (answers-at (λ made. map typed.global_view made.items) c.typed_globals-globals.result (judged_globals 0 (globals.views c.deref-2.result.now)) (judged_globals 0 (globals_in source))
    c.typed_globals-globals.ensures (ap (judged_globals 0) (ap globals.views c.deref-2.ensures.value ∙ in_file)))
    (c.typed_functions-functions.ensures.functions source (ap functions.views c.deref-3.ensures.value ∙ c.in_ok-functions.ensures.functions)
    (c.in_ok-scope.ensures.entries ∙ ap (global_entries 0) (ap globals.views c.deref.ensures.value ∙ in_file)) c.requires)
