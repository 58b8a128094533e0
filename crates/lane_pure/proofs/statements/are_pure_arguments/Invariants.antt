use Rattle.std.proofs.Common.{◌≡◌, map, drop}
use Rattle.gang_model.specs.Running.LanePure as pure
use Rattle.typed_tree.specs.Views.{arg_view}
use Rattle.lane_pure.proofs.statements.are_pure_arguments.Given as goal

-- what is left decides
abbrev pub invariant-loop-argument : goal.invariant-loop-argument
invariant-loop-argument l = pure.are_pure (map arg_view (drop l.argument-index l.arguments)) ≡ pure.are_pure (map arg_view l.fn.arguments)
