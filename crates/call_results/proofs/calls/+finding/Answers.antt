use Rattle.std.proofs.Common.{ap, sym, ◌∙◌, ◌+◌, drop, option_map}
use Rattle.typed_tree.specs.Views.{segments_view, stmt_view, stmts_view}
use Rattle.typed_tree.proofs.StatementRows.{segments_from, switch_is}
use Rattle.call_results.specs.Calls.{call_view, giving_in, givings}
use Rattle.call_results.proofs.Finding.{block_is, in_first, in_others, in_two, stmts_from}
use Rattle.call_results.proofs.calls.+finding.Goals as goal

pub in_statement-returns-in-Block : goal.in_statement-returns-in-Block
in_statement-returns-in-Block t c =
    c.in_statements.ensures ∙ ap (giving_in c.args.step) (sym (block_is c.args.statement.now c.in-Block.statements c.deref.result.now c.in-Block.is c.deref.ensures.value))

pub in_statement-returns-in-Then : goal.in_statement-returns-in-Then
in_statement-returns-in-Then t c =
    in_two c.args.step (stmt_view c.args.statement.now) (stmt_view c.in-Then.first.value) (stmt_view c.in-Then.rest.value) c.in_statement.result c.in_statement-in-Then.result c.or.result
    (ap (λ s. givings (stmt_view s)) c.in-Then.is) c.or.ensures
    (c.in_statement.ensures ∙ ap (λ s. giving_in c.args.step (stmt_view s)) c.deref-in-Then.ensures)
    (c.in_statement-in-Then.ensures ∙ ap (λ s. giving_in c.args.step (stmt_view s)) c.deref-in-Then-2.ensures)

pub in_statement-returns-in-If : goal.in_statement-returns-in-If
in_statement-returns-in-If t c =
    in_two c.args.step (stmt_view c.args.statement.now) (stmt_view c.in-If.first.value) (stmt_view c.in-If.other.value) c.in_statement-in-If.result c.in_statement-in-If-2.result c.or-in-If.result
    (ap (λ s. givings (stmt_view s)) c.in-If.is) c.or-in-If.ensures
    (c.in_statement-in-If.ensures ∙ ap (λ s. giving_in c.args.step (stmt_view s)) c.deref-in-If.ensures)
    (c.in_statement-in-If-2.ensures ∙ ap (λ s. giving_in c.args.step (stmt_view s)) c.deref-in-If-2.ensures)

pub in_statement-returns-in-Loop : goal.in_statement-returns-in-Loop
in_statement-returns-in-Loop t c =
    in_two c.args.step (stmt_view c.args.statement.now) (stmt_view c.in-Loop.update.value) (stmt_view c.in-Loop.body.value) c.in_statement-in-Loop.result c.in_statement-in-Loop-2.result c.or-in-Loop.result
    (ap (λ s. givings (stmt_view s)) c.in-Loop.is) c.or-in-Loop.ensures
    (c.in_statement-in-Loop.ensures ∙ ap (λ s. giving_in c.args.step (stmt_view s)) c.deref-in-Loop.ensures)
    (c.in_statement-in-Loop-2.ensures ∙ ap (λ s. giving_in c.args.step (stmt_view s)) c.deref-in-Loop-2.ensures)

pub in_statement-returns-in-Switch : goal.in_statement-returns-in-Switch
in_statement-returns-in-Switch t c =
    c.in_segments.ensures
    ∙ ap (giving_in c.args.step) (sym (switch_is c.args.statement.now c.in-Switch.step c.in-Switch.selector c.in-Switch.segments c.deref-in-Switch.result.now c.in-Switch.is c.deref-in-Switch.ensures.value))

pub in_statements-returns-in-Some : goal.in_statements-returns-in-Some
in_statements-returns-in-Some t c =
    let items = c.args.statements.now in
    let i = c.loop-statement.statement-index in
    let x = c.statement-item.result in
    in_first c.args.step (stmts_view (drop i items)) (stmt_view x) (stmts_view (drop (i + 1) items)) (call_view c.in-Some.call)
    (ap givings (stmts_from items i x c.loop-statement-test.true c.statement-item.is)) (sym (ap (option_map call_view) c.in-Some.is) ∙ c.in_statement.ensures)
    ∙ c.loop-statement.invariant

pub in_statements-loop-statement-preserved : goal.in_statements-loop-statement-preserved
in_statements-loop-statement-preserved t c =
    let items = c.args.statements.now in
    let i = c.loop-statement.statement-index in
    let x = c.statement-item.result in
    sym (in_others c.args.step (stmts_view (drop i items)) (stmt_view x) (stmts_view (drop (i + 1) items))
    (ap givings (stmts_from items i x c.loop-statement-test.true c.statement-item.is)) (sym (ap (option_map call_view) c.in_default.is) ∙ c.in_statement.ensures))
    ∙ c.loop-statement.invariant

pub in_segments-returns-in-Some : goal.in_segments-returns-in-Some
in_segments-returns-in-Some t c =
    let items = c.args.segments.now in
    let i = c.loop-segment.segment-index in
    let x = c.segment-item.result in
    in_first c.args.step (segments_view (drop i items)) (stmts_view x.body.items) (segments_view (drop (i + 1) items)) (call_view c.in-Some.call)
    (ap givings (segments_from items i x c.loop-segment-test.true c.segment-item.is))
    (sym (ap (option_map call_view) c.in-Some.is) ∙ c.in_statements.ensures ∙ ap (λ body. giving_in c.args.step (stmts_view body)) c.deref.ensures.value)
    ∙ c.loop-segment.invariant

pub in_segments-loop-segment-preserved : goal.in_segments-loop-segment-preserved
in_segments-loop-segment-preserved t c =
    let items = c.args.segments.now in
    let i = c.loop-segment.segment-index in
    let x = c.segment-item.result in
    sym (in_others c.args.step (segments_view (drop i items)) (stmts_view x.body.items) (segments_view (drop (i + 1) items))
    (ap givings (segments_from items i x c.loop-segment-test.true c.segment-item.is))
    (sym (ap (option_map call_view) c.in_default.is) ∙ c.in_statements.ensures ∙ ap (λ body. giving_in c.args.step (stmts_view body)) c.deref.ensures.value))
    ∙ c.loop-segment.invariant
