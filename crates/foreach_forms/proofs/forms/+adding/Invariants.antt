use Rattle.std.proofs.Common.{◌≡◌, ◌+◌, ◌++◌, drop}
use Rattle.gang_model.specs.Running.Step.{steps_of}
use Rattle.typed_tree.specs.Views.{segments_view, stmts_view}
use Rattle.foreach_forms.specs.Forms.{forms_in, lines_at}
use Rattle.foreach_forms.proofs.forms.+adding.Given as goal

-- what is left is still to be counted and added
abbrev pub invariant-add_all-loop-statement : goal.invariant-add_all-loop-statement
invariant-add_all-loop-statement l = record {
  steps : l.count + steps_of (stmts_view (drop l.statement-index l.statements)) ≡ l.fn.count + steps_of (stmts_view l.fn.statements);
  forms : l.forms.items ++ forms_in l.function (lines_at l.standings) (stmts_view (drop l.statement-index l.statements)) ≡ l.initial.forms.items ++ forms_in l.function (lines_at l.standings) (stmts_view l.fn.statements);
}

abbrev pub invariant-add_segments-loop-segment : goal.invariant-add_segments-loop-segment
invariant-add_segments-loop-segment l = record {
  steps : l.count + steps_of (segments_view (drop l.segment-index l.segments)) ≡ l.fn.count + steps_of (segments_view l.fn.segments);
  forms : l.forms.items ++ forms_in l.function (lines_at l.standings) (segments_view (drop l.segment-index l.segments)) ≡ l.initial.forms.items ++ forms_in l.function (lines_at l.standings) (segments_view l.fn.segments);
}
