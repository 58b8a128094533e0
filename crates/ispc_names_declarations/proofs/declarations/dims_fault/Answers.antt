use Rattle.std.proofs.Common.{◌∙◌, ◌+◌, drop, map, ap, sym}
use Rattle.std.proofs.lemmas.List.{drop_all}
use Rattle.gang_model.specs.Source.Judged.{least_fault}
use Rattle.gang_model.specs.Names.Scope.{with_dims}
use Rattle.gang_model.proofs.WalkedLists.{next_item}
use Rattle.ispc_names_scopes.specs.Scopes.{site}
use Rattle.source_tree.specs.Tree.{dim_view}
use Rattle.ispc_names_declarations.specs.IndexVariables.{dims_twice}
use Rattle.ispc_names_declarations.proofs.Merging.{all_found}
use Rattle.ispc_names_declarations.proofs.Declared.{dims_step, dims_declared}
use Rattle.ispc_names_declarations.proofs.declarations.dims_fault.Goals as goal

pub loop-dim-preserved : goal.loop-dim-preserved
loop-dim-preserved c =
    let items = c.args.dims.now in
    let i = c.loop-dim.dim-index in
    let rest = map dim_view (drop i items) in
    let later = map dim_view (drop (i + 1) items) in
    let split = ap (map dim_view) (next_item items i c.dim-item.result c.loop-dim-test.true c.dim-item.is) in
    let s = c.loop-dim.scopes in
    let s' = c.declaration_fault.new.scopes in
    record {
      found = dims_step rest later (dim_view c.dim-item.result) s s' c.deref.result.now _ _ _ _ split c.loop-dim.invariant.found c.deref.ensures.value
          c.in_ok-declaration_fault.ensures.fault c.in_ok-declaration_fault.ensures.declared c.least-first.ensures;
      declared = dims_declared rest later (dim_view c.dim-item.result) s s' c.deref.result.now _ split c.loop-dim.invariant.declared c.deref.ensures.value
          c.in_ok-declaration_fault.ensures.declared;
      outside = c.in_ok-declaration_fault.ensures.outside ∙ c.loop-dim.invariant.outside;
    }

pub returns-clause-fault : goal.returns-clause-fault
returns-clause-fault c =
    all_found _ _ _ c.loop-dim.invariant.found
    (ap (λ xs. least_fault (dims_twice (map dim_view xs) (site c.loop-dim.scopes))) (drop_all c.loop-dim.dim-index c.args.dims.now c.loop-dim-test.false))

pub returns-clause-declared : goal.returns-clause-declared
returns-clause-declared c =
    sym (c.loop-dim.invariant.declared
    ∙ ap (λ xs. with_dims (map dim_view xs) (site c.loop-dim.scopes)) (drop_all c.loop-dim.dim-index c.args.dims.now c.loop-dim-test.false))
