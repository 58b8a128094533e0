use Rattle.std.proofs.Common.{subst}
use Rattle.std.specs.Prelude.{IfOk, IsTrue}
use Rattle.gang_model.specs.Running.SeparateInstances.{HasSeparateLanes}
use Rattle.source_tree.specs.Tree.{tree_view}
use Rattle.type_check.proofs.purity.is_lane_pure.Goals as goal

pub returns-clause-separate : goal.returns-clause-separate
returns-clause-separate c =
    subst (λ tree. IfOk c.is_pure_in_lanes.result (λ is. IsTrue is → HasSeparateLanes (tree_view tree) c.args.function.0)) c.tree.ensures.value c.is_pure_in_lanes.ensures.separate
