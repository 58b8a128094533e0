use Rattle.std.proofs.Common.{◌≡◌, ◌+◌, arith, ◌∙◌, subst, sym, ap, drop}
use Rattle.std.specs.Prelude.{IfOk}
use Rattle.std.proofs.lemmas.List.{drop_all}
use Rattle.std.proofs.lemmas.Result.{IfOk-weaker}
use Rattle.gang_model.specs.Running.Step.{steps_of}
use Rattle.typed_tree.specs.Views.{segments_view, stmt_view, stmts_view}
use Rattle.typed_tree.proofs.StatementRows.{switch_is}
use Rattle.mask_lowering.proofs.Rows.{block_is, segment_steps_from, steps_from}
use Rattle.mask_lowering.proofs.count.+counting.Goals as goal

pub with_statement-returns-in-Block : goal.with_statement-returns-in-Block
with_statement-returns-in-Block t c =
    let e = block_is c.args.statement.now c.in-Block.statements c.deref.result.now c.in-Block.is c.deref.ensures.value in
    subst (λ s. IfOk c.with_statements.result (λ sum. sum ≡ c.args.count + steps_of s)) (sym e) c.with_statements.ensures

pub with_statements-loop-statement-preserved : goal.with_statements-loop-statement-preserved
with_statements-loop-statement-preserved t c =
    let items = c.args.statements.now in
    let i = c.loop-statement.statement-index in
    let e = steps_from items i c.statement-item.result c.loop-statement-test.true c.statement-item.is in
    let counted : c.loop-statement.count + steps_of (stmts_view (drop i items)) ≡ c.args.count + steps_of (stmts_view items) = c.loop-statement.invariant in
    let more : c.in_ok-count.count ≡ c.loop-statement.count + steps_of (stmt_view c.statement-item.result) = c.in_ok-count.ensures in
    omega (arith, e, counted, more)

pub with_statements-returns : goal.with_statements-returns
with_statements-returns t c =
    let items = c.args.statements.now in
    let i = c.loop-statement.statement-index in
    let none : steps_of (stmts_view (drop i items)) ≡ 0 = ap (λ rest. steps_of (stmts_view rest)) (drop_all i items c.loop-statement-test.false) in
    let counted : c.loop-statement.count + steps_of (stmts_view (drop i items)) ≡ c.args.count + steps_of (stmts_view items) = c.loop-statement.invariant in
    omega (arith, none, counted)

pub with_statement-returns-in_ok-one_more-in-Switch : goal.with_statement-returns-in_ok-one_more-in-Switch
with_statement-returns-in_ok-one_more-in-Switch t c =
    let e = switch_is c.args.statement.now c.in-Switch.step c.in-Switch.selector c.in-Switch.segments c.deref-in-Switch.result.now c.in-Switch.is c.deref-in-Switch.ensures.value in
    let steps = steps_of (segments_view c.deref-in-Switch.result.now) in
    let one : c.in_ok-one_more-in-Switch.field-0 ≡ c.args.count + 1 = c.in_ok-one_more-in-Switch.ensures in
    subst (λ s. IfOk c.with_segments.result (λ sum. sum ≡ c.args.count + steps_of s)) (sym e)
    (IfOk-weaker c.with_segments.result (λ sum. sum ≡ c.in_ok-one_more-in-Switch.field-0 + steps) (λ sum. sum ≡ c.args.count + (1 + steps)) (λ sum is. omega (arith, is, one)) c.with_segments.ensures)

pub with_segments-loop-segment-preserved : goal.with_segments-loop-segment-preserved
with_segments-loop-segment-preserved t c =
    let items = c.args.segments.now in
    let i = c.loop-segment.segment-index in
    let e = segment_steps_from items i c.segment-item.result c.loop-segment-test.true c.segment-item.is in
    let counted : c.loop-segment.count + steps_of (segments_view (drop i items)) ≡ c.args.count + steps_of (segments_view items) = c.loop-segment.invariant in
    let more : c.in_ok-count.count ≡ c.loop-segment.count + steps_of (stmts_view c.segment-item.result.body.items) =
    c.in_ok-count.ensures ∙ ap (λ body. c.loop-segment.count + steps_of (stmts_view body)) c.deref.ensures.value in
    omega (arith, e, counted, more)

pub with_segments-returns : goal.with_segments-returns
with_segments-returns t c =
    let items = c.args.segments.now in
    let i = c.loop-segment.segment-index in
    let none : steps_of (segments_view (drop i items)) ≡ 0 = ap (λ rest. steps_of (segments_view rest)) (drop_all i items c.loop-segment-test.false) in
    let counted : c.loop-segment.count + steps_of (segments_view (drop i items)) ≡ c.args.count + steps_of (segments_view items) = c.loop-segment.invariant in
    omega (arith, none, counted)
