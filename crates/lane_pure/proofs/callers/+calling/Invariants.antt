-- what is left is still to be put
use Rattle.std.proofs.Common.{◌≡◌, drop}
use Rattle.typed_tree.specs.Views.{segments_view, stmts_view}
use Rattle.lane_pure.specs.Callers.{lists, with_calls}
use Rattle.lane_pure.proofs.callers.+calling.Given as goal

abbrev pub invariant-add_statements-loop-statement : goal.invariant-add_statements-loop-statement
invariant-add_statements-loop-statement l = with_calls l.caller (stmts_view (drop l.statement-index l.statements)) (lists l.callers) ≡ with_calls l.fn.caller (stmts_view l.fn.statements) (lists l.fn.callers)

abbrev pub invariant-add_segments-loop-segment : goal.invariant-add_segments-loop-segment
invariant-add_segments-loop-segment l = with_calls l.caller (segments_view (drop l.segment-index l.segments)) (lists l.callers) ≡ with_calls l.fn.caller (segments_view l.fn.segments) (lists l.fn.callers)
