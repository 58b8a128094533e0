use Rattle.std.proofs.Common.{◌∙◌, ap, refl, map, length}
use Rattle.gang_model.specs.Types.Calls.{Context}
use Rattle.gang_model.specs.Types.Signatures.{ResultType}
use Rattle.gang_model.specs.Types.Resolved.{param_variables}
use Rattle.gang_model.specs.Types.Statements.{statements}
use Rattle.source_tree.specs.Tree as parsed
use Rattle.type_check_statement_parts.proofs.SingleSteps.{unless-memory}
use Rattle.type_check_functions.proofs.FunctionBodies.{statements-of_body, body-answered, if-apart}
use Rattle.type_check_functions.proofs.FunctionParts.{views}
use Rattle.type_check_functions.proofs.Parameters.{params-in_scope, within, left_again}
use Rattle.type_check_functions.proofs.functions.body_of.Goals as goal

pub leave-requires : goal.leave-requires
leave-requires c =
    let f = c.args.function.now in
    let answered = if-apart c.typed_body.result c.in_ok-statements.statements c.in_ok-statements.ensures c.typed_body.ensures.entries in
    within (map parsed.param_view f.params.items) c.args.scope.now.entries c.typed_body.new.scope.entries c.mark-mark.result.declared
    (params-in_scope c.deref.result.now f.params.items c.args.scope.now.entries c.begin_function.new.self.entries c.declare_params.new.scope.entries c.typed_body.new.scope.entries
    answered c.in_ok-declare_params.ensures.entries c.deref.ensures.value c.begin_function.ensures.entries)
    c.mark-mark.ensures

pub returns-clause-body : goal.returns-clause-body
returns-clause-body c =
    let f = c.args.function.now in
    let functions = views c.args.functions.now in
    let file = c.args.scope.now.entries in
    let declared = c.declare_params.new.scope in
    let context : Context = record { functions = functions; result = c.result_of.result } in
    let body = parsed.stmts_view c.deref-2.result.now in
    let locals_are = c.in_ok-declare_params.ensures.locals ∙ ap (λ ps. param_variables 0 (map parsed.param_view ps)) c.deref.ensures.value in
    let judged = statements-of_body functions (parsed.function_view f) file body context declared.entries declared.locals
    (ap parsed.stmts_view c.deref-2.ensures.value) (ap (λ (r : ResultType). record { functions = functions; result = r }) c.result_of.ensures)
    (params-in_scope c.deref.result.now f.params.items file c.begin_function.new.self.entries declared.entries declared.entries refl c.in_ok-declare_params.ensures.entries c.deref.ensures.value c.begin_function.ensures.entries)
    locals_are in
    body-answered functions (parsed.function_view f) file declared.locals locals_are c.take_locals.result (statements body context declared.entries (length declared.locals) 0) judged
    c.typed_body.result c.in_ok-statements.statements c.typed_body.new.scope.locals c.new.result c.typed_body.ensures.makes c.in_ok-statements.ensures
    (c.take_locals.ensures.taken ∙ c.leave.ensures.locals) c.new.ensures

pub returns-clause-entries : goal.returns-clause-entries
returns-clause-entries c =
    let f = c.args.function.now in
    let answered = if-apart c.typed_body.result c.in_ok-statements.statements c.in_ok-statements.ensures c.typed_body.ensures.entries in
    unless-memory c.new.result (c.take_locals.ensures.entries ∙ (c.leave.ensures.entries
    ∙ left_again (map parsed.param_view f.params.items) c.args.scope.now.entries c.typed_body.new.scope.entries c.mark-mark.result.declared
    (params-in_scope c.deref.result.now f.params.items c.args.scope.now.entries c.begin_function.new.self.entries c.declare_params.new.scope.entries c.typed_body.new.scope.entries
    answered c.in_ok-declare_params.ensures.entries c.deref.ensures.value c.begin_function.ensures.entries)
    c.mark-mark.ensures))
