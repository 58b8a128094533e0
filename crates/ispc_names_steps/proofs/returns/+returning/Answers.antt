use Rattle.std.proofs.Common.{ap, sym, ◌∙◌}
use Rattle.gang_model.specs.Names.Scope.{has_return, one_returns, some_segment_returns}
use Rattle.source_tree.specs.Tree.{stmt_view, stmts_view, segments_view}
use Rattle.source_tree.proofs.StatementRows.{view_block, view_switch}
use Rattle.ispc_names_steps.proofs.Segments.{return_in_segment}
use Rattle.ispc_names_steps.proofs.Sequences.{return_here}
use Rattle.ispc_names_steps.proofs.returns.+returning.Goals as goal

pub has_return-returns-in-Block : goal.has_return-returns-in-Block
has_return-returns-in-Block t c =
    c.one_returns.ensures ∙ ap (λ ss. one_returns (stmts_view ss)) c.deref.ensures.value
    ∙ sym (ap (λ s. has_return (stmt_view s)) c.in-Block.is ∙ ap has_return (view_block c.in-Block.stmts))

pub one_returns-returns-then-has_return : goal.one_returns-returns-then-has_return
one_returns-returns-then-has_return t c =
    sym (c.loop-stmt.invariant ∙ return_here c.args.stmts.now c.loop-stmt.stmt-index c.stmt-item.result c.loop-stmt-test.true c.stmt-item.is (sym c.if-has_return.ensures))

pub has_return-returns-in-Switch : goal.has_return-returns-in-Switch
has_return-returns-in-Switch t c =
    c.one_segment_returns.ensures ∙ ap (λ xs. some_segment_returns (segments_view xs)) c.deref-in-Switch.ensures.value
    ∙ sym (ap (λ s. has_return (stmt_view s)) c.in-Switch.is ∙ ap has_return (view_switch c.in-Switch.place c.in-Switch.selector c.in-Switch.segments))

pub one_segment_returns-returns-then-one_returns : goal.one_segment_returns-returns-then-one_returns
one_segment_returns-returns-then-one_returns t c =
    sym (c.loop-segment.invariant
    ∙ return_in_segment c.args.segments.now c.loop-segment.segment-index c.segment-item.result c.deref.result.now c.loop-segment-test.true c.segment-item.is c.deref.ensures.value (sym c.if-one_returns.ensures))
