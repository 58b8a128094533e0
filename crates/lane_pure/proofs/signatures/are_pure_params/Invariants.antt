use Rattle.std.proofs.Common.{◌≡◌, map, drop}
use Rattle.gang_model.specs.Running.LanePure as pure
use Rattle.source_tree.specs.Tree as written
use Rattle.lane_pure.proofs.signatures.are_pure_params.Given as goal

-- what is left decides
abbrev pub invariant-loop-param : goal.invariant-loop-param
invariant-loop-param l = pure.are_pure_params (map written.param_view (drop l.param-index l.params)) ≡ pure.are_pure_params (map written.param_view l.fn.params)
