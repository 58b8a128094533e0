use Rattle.std.proofs.Common.{◌≡◌, drop}
use Rattle.typed_tree.specs.Views.{segments_view, stmts_view}
use Rattle.variable_writes.specs.Writes.{sets}
use Rattle.variable_writes.proofs.setting.+setting.Given as goal

-- what is left decides
abbrev pub invariant-statements_set-loop-statement : goal.invariant-statements_set-loop-statement
invariant-statements_set-loop-statement l = sets l.id l.number (stmts_view (drop l.statement-index l.statements)) ≡ sets l.fn.id l.fn.number (stmts_view l.fn.statements)

abbrev pub invariant-segments_set-loop-segment : goal.invariant-segments_set-loop-segment
invariant-segments_set-loop-segment l = sets l.id l.number (segments_view (drop l.segment-index l.segments)) ≡ sets l.fn.id l.fn.number (segments_view l.fn.segments)
