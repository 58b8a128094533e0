use Rattle.std.proofs.Common.{◌≡◌, take, false}
use Rattle.gang_model.specs.Names.Scope.{one_returns}
use Rattle.source_tree.specs.Tree.{stmts_view}
use Rattle.ispc_names_steps.proofs.returns.len_before_return.Given as goal

abbrev pub invariant-loop-number : goal.invariant-loop-number
invariant-loop-number l = one_returns (stmts_view (take l.number l.stmts)) ≡ false
