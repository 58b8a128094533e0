-- what is left is still to be added
use Rattle.std.proofs.Common.{◌≡◌, ◌++◌, drop}
use Rattle.typed_tree.specs.Views.{segments_view, stmts_view}
use Rattle.element_accesses.specs.Found.{accesses_in}
use Rattle.element_accesses.specs.Views.{founds_view}
use Rattle.element_accesses.proofs.finding.+finding.Given as goal

abbrev pub invariant-add_all-loop-statement : goal.invariant-add_all-loop-statement
invariant-add_all-loop-statement l = founds_view l.found.items ++ accesses_in l.function (stmts_view (drop l.statement-index l.statements)) ≡ founds_view l.initial.found.items ++ accesses_in l.function (stmts_view l.fn.statements)

abbrev pub invariant-add_segments-loop-segment : goal.invariant-add_segments-loop-segment
invariant-add_segments-loop-segment l = founds_view l.found.items ++ accesses_in l.function (segments_view (drop l.segment-index l.segments)) ≡ founds_view l.initial.found.items ++ accesses_in l.function (segments_view l.fn.segments)
