use Rattle.std.proofs.Common.{◌≡◌, true, ap, sym, ◌∙◌}
use Rattle.std.specs.Prelude.{◌&&◌}
use Rattle.gang_model.specs.Running.LanePure as pure
use Rattle.typed_tree.specs.Views.{boxed_view, expr_view, segments_view}
use Rattle.typed_tree.proofs.StatementRows.{switch_is}
use Rattle.lane_pure.proofs.Rows.{block_is}
use Rattle.lane_pure.proofs.statements.+purity.Goals as goal

pub is_pure_statement-returns-in-Block : goal.is_pure_statement-returns-in-Block
is_pure_statement-returns-in-Block t c =
    c.are_pure_statements.ensures ∙ ap pure.is_pure_stmt (sym (block_is c.args.statement.now c.in-Block.statements c.deref.result.now c.in-Block.is c.deref.ensures.value))

pub is_pure_statement-returns-then-is_pure-4 : goal.is_pure_statement-returns-then-is_pure-4
is_pure_statement-returns-then-is_pure-4 t c =
    let segments = segments_view c.deref-then-is_pure-4.result.now in
    let selector : pure.is_pure (boxed_view c.in-Switch.selector) ≡ true =
    ap (λ e. pure.is_pure (expr_view e)) (sym c.deref-in-Switch.ensures) ∙ sym c.is_pure-in-Switch.ensures ∙ c.if-is_pure-4.true in
    c.are_pure_segments.ensures
    ∙ ap (λ is. is && pure.is_pure_stmt segments) (sym selector)
    ∙ ap pure.is_pure_stmt
    (sym (switch_is c.args.statement.now c.in-Switch.step c.in-Switch.selector c.in-Switch.segments c.deref-then-is_pure-4.result.now c.in-Switch.is c.deref-then-is_pure-4.ensures.value))
