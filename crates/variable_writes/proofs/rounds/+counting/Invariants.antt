use Rattle.std.proofs.Common.{◌≡◌, ◌+◌, ◌≤◌, min, drop}
use Rattle.gang_model.specs.Running.Step.{steps_of}
use Rattle.typed_tree.specs.Views.{segments_view, stmts_view}
use Rattle.variable_writes.specs.Steps.{greatest}
use Rattle.variable_writes.proofs.rounds.+counting.Given as goal

-- what is counted so far and what is left come to the whole
abbrev pub invariant-steps_in_all-loop-statement : goal.invariant-steps_in_all-loop-statement
invariant-steps_in_all-loop-statement l = record {
  counted : min (l.steps + steps_of (stmts_view (drop l.statement-index l.statements))) greatest ≡ min (steps_of (stmts_view l.fn.statements)) greatest;
  fits : l.steps ≤ greatest;
}

abbrev pub invariant-steps_in_segments-loop-segment : goal.invariant-steps_in_segments-loop-segment
invariant-steps_in_segments-loop-segment l = record {
  counted : min (l.steps + steps_of (segments_view (drop l.segment-index l.segments))) greatest ≡ min (steps_of (segments_view l.fn.segments)) greatest;
  fits : l.steps ≤ greatest;
}
