use Rattle.std.proofs.Common.{◌≡◌, ◌+◌, drop}
use Rattle.gang_model.specs.Running.Step.{steps_of}
use Rattle.typed_tree.specs.Views.{segments_view, stmts_view}
use Rattle.mask_lowering.proofs.count.+counting.Given as goal

-- what is left is still to be counted
abbrev pub invariant-with_statements-loop-statement : goal.invariant-with_statements-loop-statement
invariant-with_statements-loop-statement l = l.count + steps_of (stmts_view (drop l.statement-index l.statements)) ≡ l.fn.count + steps_of (stmts_view l.fn.statements)

abbrev pub invariant-with_segments-loop-segment : goal.invariant-with_segments-loop-segment
invariant-with_segments-loop-segment l = l.count + steps_of (segments_view (drop l.segment-index l.segments)) ≡ l.fn.count + steps_of (segments_view l.fn.segments)
