use Rattle.std.proofs.Common.{◌≡◌, drop}
use Rattle.gang_model.specs.Running.LanePure as pure
use Rattle.typed_tree.specs.Views.{segments_view, stmts_view}
use Rattle.lane_pure.proofs.statements.+purity.Given as goal

-- what is left decides
abbrev pub invariant-are_pure_statements-loop-statement : goal.invariant-are_pure_statements-loop-statement
invariant-are_pure_statements-loop-statement l = pure.is_pure_stmt (stmts_view (drop l.statement-index l.statements)) ≡ pure.is_pure_stmt (stmts_view l.fn.statements)

abbrev pub invariant-are_pure_segments-loop-segment : goal.invariant-are_pure_segments-loop-segment
invariant-are_pure_segments-loop-segment l = pure.is_pure_stmt (segments_view (drop l.segment-index l.segments)) ≡ pure.is_pure_stmt (segments_view l.fn.segments)
