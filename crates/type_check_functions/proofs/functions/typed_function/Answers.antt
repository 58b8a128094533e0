use Rattle.gang_model.specs.Source.Judged.{Sound, unless}
use Rattle.gang_model.specs.Types.TypeFaults.{signature_faults}
use Rattle.gang_model.specs.Types.Resolved.{judged_function}
use Rattle.source_tree.specs.Tree as parsed
use Rattle.ispc_names_table.specs.Scopes.{standings_view}
use Rattle.typed_tree.specs.Views as typed
use Rattle.source_answers.proofs.Answered.{answers-at, answers-refusal}
use Rattle.type_check_functions.specs.Bodies.{body_view, judged_body, with_body}
use Rattle.type_check_functions.proofs.FunctionParts.{views, from_parts, function-of_parts}
use Rattle.type_check_expressions.proofs.Residuals.{pair-refused}
use Rattle.type_check_functions.proofs.functions.typed_function.Goals as goal

pub returns-in_err-body-clause-function : goal.returns-in_err-body-clause-function
returns-in_err-body-clause-function c = λ source are entries standings.
    let functions = views c.args.functions.now in
    let f = parsed.function_view c.args.function.now in
    let file = c.args.scope.now.entries in
    let steps = standings_view c.args.scopes in
    answers-at typed.function_view c.from_residual.result (from_parts functions f file steps) (judged_function source f)
    (pair-refused (λ none. f) body_view typed.function_view c.refuse-signature.result c.body_of-body.result (unless (signature_faults f) f) (judged_body functions f file)
    (λ parts. Sound (with_body f parts.1 steps)) c.in_err-body.field-0.0 c.from_residual.result c.from_residual.ensures.1 c.in_err-body.ensures
    (answers-refusal c.signature_fault.result c.refuse-signature.result (signature_faults f) f c.refuse-signature.ensures c.signature_fault.ensures) c.body_of-body.ensures.body)
    (function-of_parts source f functions file steps are entries standings)
