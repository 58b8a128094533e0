use Rattle.std.proofs.Common.{◌∙◌, map, ap, not}
use Rattle.gang_model.specs.declared.refusals.RefusalNumber.TheVariants.{S11}
use Rattle.gang_model.specs.Source.Judged.{fault_if}
use Rattle.gang_model.specs.Names.Scope.{enclosed, with_dims}
use Rattle.ispc_names_scopes.specs.Scopes.{site}
use Rattle.source_tree.specs.Tree.{dim_view}
use Rattle.ispc_names_expressions.proofs.DomainHeads.{head_found}
use Rattle.ispc_names_expressions.proofs.heads.domain_head_fault.Goals as goal

pub returns-clause-fault : goal.returns-clause-fault
returns-clause-fault c =
    let s = c.args.scopes.now in
    head_found (fault_if (not c.args.may.domains) S11 c.args.place) (map dim_view c.args.dims.now) c.args.functions.now s.environment (site c.enter.new.self) (enclosed (site s)) _ _ _ _ _
    c.enter.ensures.inside c.fault_if-own.ensures c.in_ok-in_names.ensures.fault c.bounds_fault-in_bounds.ensures c.least.ensures c.least-2.ensures

pub returns-clause-declared : goal.returns-clause-declared
returns-clause-declared c = c.in_ok-in_names.ensures.declared ∙ ap (with_dims (map dim_view c.args.dims.now)) c.enter.ensures.inside
