use Rattle.std.proofs.Common.{◌∙◌, ap, map}
use Rattle.gang_model.specs.Source.Judged.{least_fault}
use Rattle.gang_model.specs.Names.NameFaults.{params_twice, stmts_names}
use Rattle.gang_model.specs.Names.Scope.{with_params}
use Rattle.ispc_names_scopes.specs.Scopes.{site}
use Rattle.source_tree.specs.Tree.{function_view, param_view, stmts_view}
use Rattle.ispc_names_expressions.specs.MayStand.{allowed_view}
use Rattle.ispc_names_faults.proofs.ScopeSteps.{reach_begun, reach_params, reach_body, extends_within, environment_left}
use Rattle.ispc_names_faults.proofs.Found.{function_found}
use Rattle.ispc_names_faults.proofs.outermost.function_fault.Goals as goal

pub leave-requires-clause-declared : goal.leave-requires-clause-declared
leave-requires-clause-declared c =
    extends_within c.args.scopes.now.environment c.body_fault.new.scopes.environment c.begin_function-mark.result.declared c.begin_function-mark.ensures.declared
    (reach_body c.args.scopes.now c.params_fault.new.scopes c.body_fault.new.scopes (stmts_view c.deref-3.result.now)
    (reach_params c.args.scopes.now c.begin_function-mark.new.self c.params_fault.new.scopes (map param_view c.deref-2.result.now)
    (reach_begun c.args.scopes.now c.begin_function-mark.new.self c.begin_function-mark.ensures.inside) c.in_ok-in_params.ensures.declared) c.in_ok-in_body.ensures.after)

pub returns-clause-fault : goal.returns-clause-fault
returns-clause-fault c =
    let s1 = c.begin_function-mark.new.self in
    let s2 = c.params_fault.new.scopes in
    let functions = c.args.functions.now in
    let may = allowed_view functions c.in_function.result in
    function_found c.args.scopes.now s1 s2 (function_view c.args.function.now) functions c.deref.result.now may c.is_of_library-is_taken.result _ _ _ _ _
    c.deref.ensures.value c.is_of_library-is_taken.ensures c.fault_if-own.ensures c.begin_function-mark.ensures.inside
    (c.in_ok-in_params.ensures.fault ∙ ap (λ ps. least_fault (params_twice (map param_view ps) (site s1))) c.deref-2.ensures.value)
    (c.in_ok-in_params.ensures.declared ∙ ap (λ ps. with_params (map param_view ps) (site s1)) c.deref-2.ensures.value)
    (c.in_function.ensures functions)
    (c.in_ok-in_body.ensures.fault ∙ ap (λ xs. least_fault (stmts_names (stmts_view xs) may (site s2))) c.deref-3.ensures.value)
    c.least.ensures c.least-2.ensures

pub returns-clause-environment : goal.returns-clause-environment
returns-clause-environment c =
    environment_left c.args.scopes.now c.body_fault.new.scopes c.leave.new.self c.begin_function-mark.result.declared c.begin_function-mark.result.outside c.begin_function-mark.ensures.declared
    (reach_body c.args.scopes.now c.params_fault.new.scopes c.body_fault.new.scopes (stmts_view c.deref-3.result.now)
    (reach_params c.args.scopes.now c.begin_function-mark.new.self c.params_fault.new.scopes (map param_view c.deref-2.result.now)
    (reach_begun c.args.scopes.now c.begin_function-mark.new.self c.begin_function-mark.ensures.inside) c.in_ok-in_params.ensures.declared) c.in_ok-in_body.ensures.after)
    (record { environment_is = c.leave.ensures.environment; outside_is = c.leave.ensures.outside; next_is = c.leave.ensures.next })
