use Rattle.std.proofs.Common.{◌∙◌, ◌+◌, drop, map, ap, sym}
use Rattle.std.proofs.lemmas.List.{drop_all}
use Rattle.gang_model.specs.Source.Judged.{least_fault}
use Rattle.gang_model.specs.Names.NameFaults.{params_twice}
use Rattle.gang_model.specs.Names.Scope.{with_params}
use Rattle.gang_model.proofs.WalkedLists.{next_item}
use Rattle.ispc_names_scopes.specs.Scopes.{site}
use Rattle.source_tree.specs.Tree.{param_view}
use Rattle.ispc_names_declarations.proofs.Merging.{all_found}
use Rattle.ispc_names_declarations.proofs.Declared.{params_step, params_declared}
use Rattle.ispc_names_declarations.proofs.declarations.params_fault.Goals as goal

pub loop-param-preserved : goal.loop-param-preserved
loop-param-preserved c =
    let items = c.args.params.now in
    let i = c.loop-param.param-index in
    let rest = map param_view (drop i items) in
    let later = map param_view (drop (i + 1) items) in
    let split = ap (map param_view) (next_item items i c.param-item.result c.loop-param-test.true c.param-item.is) in
    let s = c.loop-param.scopes in
    let s' = c.declaration_fault.new.scopes in
    record {
      found = params_step rest later (param_view c.param-item.result) s s' c.deref.result.now _ _ _ _ split c.loop-param.invariant.found c.deref.ensures.value
          c.in_ok-declaration_fault.ensures.fault c.in_ok-declaration_fault.ensures.declared c.least-first.ensures;
      declared = params_declared rest later (param_view c.param-item.result) s s' c.deref.result.now _ split c.loop-param.invariant.declared c.deref.ensures.value
          c.in_ok-declaration_fault.ensures.declared;
      outside = c.in_ok-declaration_fault.ensures.outside ∙ c.loop-param.invariant.outside;
    }

pub returns-clause-fault : goal.returns-clause-fault
returns-clause-fault c =
    all_found _ _ _ c.loop-param.invariant.found
    (ap (λ xs. least_fault (params_twice (map param_view xs) (site c.loop-param.scopes))) (drop_all c.loop-param.param-index c.args.params.now c.loop-param-test.false))

pub returns-clause-declared : goal.returns-clause-declared
returns-clause-declared c =
    sym (c.loop-param.invariant.declared
    ∙ ap (λ xs. with_params (map param_view xs) (site c.loop-param.scopes)) (drop_all c.loop-param.param-index c.args.params.now c.loop-param-test.false))
