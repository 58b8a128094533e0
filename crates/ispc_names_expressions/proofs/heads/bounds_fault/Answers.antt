use Rattle.std.proofs.Common.{◌∙◌, ◌+◌, ◌++◌, drop, map, ap}
use Rattle.gang_model.specs.Source.Judged.{least_fault}
use Rattle.gang_model.specs.Names.NameFaults.{names_in}
use Rattle.gang_model.proofs.JudgedLaws.{least_fault-append}
use Rattle.gang_model.proofs.WalkedLists.{next_item}
use Rattle.source_tree.specs.Tree.{dim_view}
use Rattle.ispc_names_expressions.specs.Bounds.{bounds_names}
use Rattle.ispc_names_declarations.proofs.Merging.{one_more, pair_fault}
use Rattle.ispc_names_expressions.proofs.heads.bounds_fault.Goals as goal

pub loop-dim-preserved : goal.loop-dim-preserved
loop-dim-preserved c =
    let items = c.args.dims.now in
    let i = c.loop-dim.dim-index in
    let functions = c.args.functions.now in
    let env = c.args.scopes.now.environment in
    let d = dim_view c.dim-item.result in
    let bounds = names_in d.low functions env ++ names_in d.high functions env in
    let later = bounds_names (map dim_view (drop (i + 1) items)) functions env in
    one_more _ _ _ _ (least_fault bounds) _ (least_fault later) c.loop-dim.invariant
    (ap (λ ds. least_fault (bounds_names (map dim_view ds) functions env)) (next_item items i c.dim-item.result c.loop-dim-test.true c.dim-item.is)
    ∙ least_fault-append bounds later)
    (pair_fault _ _ _ _ _ c.expression_fault-in_low.ensures c.expression_fault-in_high.ensures c.least.ensures)
    c.least-first.ensures
