use Rattle.std.proofs.Common.{◌≡◌, drop}
use Rattle.typed_tree.specs.Views.{segments_view, stmts_view}
use Rattle.call_results.specs.Calls.{giving_in}
use Rattle.call_results.proofs.calls.+finding.Given as goal

-- what is left is still to be searched
abbrev pub invariant-in_segments-loop-segment : goal.invariant-in_segments-loop-segment
invariant-in_segments-loop-segment l = giving_in l.step (segments_view (drop l.segment-index l.segments)) ≡ giving_in l.fn.step (segments_view l.fn.segments)

abbrev pub invariant-in_statements-loop-statement : goal.invariant-in_statements-loop-statement
invariant-in_statements-loop-statement l = giving_in l.step (stmts_view (drop l.statement-index l.statements)) ≡ giving_in l.fn.step (stmts_view l.fn.statements)
