use Rattle.std.proofs.Common.{◌≡◌, drop}
use Rattle.gang_model.specs.Names.Scope.{one_returns, some_segment_returns}
use Rattle.source_tree.specs.Tree.{stmts_view, segments_view}
use Rattle.ispc_names_steps.proofs.returns.+returning.Given as goal

abbrev pub invariant-one_returns-loop-stmt : goal.invariant-one_returns-loop-stmt
invariant-one_returns-loop-stmt l = one_returns (stmts_view l.stmts) ≡ one_returns (stmts_view (drop l.stmt-index l.stmts))

abbrev pub invariant-one_segment_returns-loop-segment : goal.invariant-one_segment_returns-loop-segment
invariant-one_segment_returns-loop-segment l = some_segment_returns (segments_view l.segments) ≡ some_segment_returns (segments_view (drop l.segment-index l.segments))
