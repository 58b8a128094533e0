use Rattle.std.proofs.Common.{◌≡◌, ◌+◌, ◌*◌, ◌≤◌, min, drop}
use Rattle.gang_model.specs.Running.Numbering.{steps_in_all, steps_in_segments}
use Rattle.source_tree.specs.declared.tree.Stmt.{size-Stmt}
use Rattle.source_tree.specs.Tree.{segments_view, stmts_view}
use Rattle.type_check_parts.specs.Steps.{greatest}
use Rattle.type_check_parts.proofs.numbering.+after.Given as goal

abbrev pub decreases-after_steps : goal.decreases-after_steps
decreases-after_steps l = 3 * size-Stmt l.stmt.now

abbrev pub decreases-after_all : goal.decreases-after_all
decreases-after_all l = 3 * goal.size-after_all l + 1

abbrev pub decreases-after_segments : goal.decreases-after_segments
decreases-after_segments l = 3 * goal.size-after_segments l + 2

-- what is counted so far and what is left come to the whole
abbrev pub invariant-after_all-loop-stmt : goal.invariant-after_all-loop-stmt
invariant-after_all-loop-stmt l = record {
  counted : min (l.after + steps_in_all (stmts_view (drop l.stmt-index l.stmts))) greatest ≡ min (l.fn.step + steps_in_all (stmts_view l.stmts)) greatest;
  fits : l.after ≤ greatest;
}

abbrev pub invariant-after_segments-loop-segment : goal.invariant-after_segments-loop-segment
invariant-after_segments-loop-segment l = record {
  counted : min (l.after + steps_in_segments (segments_view (drop l.segment-index l.segments))) greatest ≡ min (l.fn.step + steps_in_segments (segments_view l.segments)) greatest;
  fits : l.after ≤ greatest;
}
