use Rattle.std.proofs.Common.{◌≡◌, Some, ap₂, subst}
use Rattle.gang_model.specs.Source.Parsed.{functions_in}
use Rattle.gang_model.specs.Types.Resolved.{program_of}
use Rattle.source_tree.specs.Tree.{tree_view}
use Rattle.typed_tree.specs.Views.{program_view}
use Rattle.lane_report.specs.Reports.{function_lines}
use Rattle.lane_report.proofs.Answered.{report_of}
use Rattle.lane_report.proofs.reporting.report.Goals as goal

pub returns-in-Ok-write_lines-clause-report : goal.returns-in-Ok-write_lines-clause-report
returns-in-Ok-write_lines-clause-report g c =
    let p = program_view c.checked.inside.program in
    let typed = subst (λ tree. program_of (tree_view tree) ≡ Some p) c.checked.view_is c.checked.invariant.1 in
    let out = function_lines (functions_in (tree_view c.tree.result.now)) c.deref.result.now in
    let same = ap₂ (λ tree answers. function_lines (functions_in (tree_view tree)) answers) c.tree.ensures.value c.deref.ensures.value in
    (out, report_of c.args.source.now out _ p _ c.in-Ok.ensures.reads c.in-Ok.ensures.accepted typed (c.in-Ok-lane_pure_functions.ensures p typed) same, c.in-Ok-write_lines.ensures)

pub returns-clause-report : goal.returns-clause-report
returns-clause-report g c =
    let p = program_view c.checked.inside.program in
    let typed = subst (λ tree. program_of (tree_view tree) ≡ Some p) c.checked.view_is c.checked.invariant.1 in
    let out = function_lines (functions_in (tree_view c.tree.result.now)) c.deref.result.now in
    let same = ap₂ (λ tree answers. function_lines (functions_in (tree_view tree)) answers) c.tree.ensures.value c.deref.ensures.value in
    (out, report_of c.args.source.now out _ p _ c.in-Ok.ensures.reads c.in-Ok.ensures.accepted typed (c.in-Ok-lane_pure_functions.ensures p typed) same, c.in-Err.ensures)
