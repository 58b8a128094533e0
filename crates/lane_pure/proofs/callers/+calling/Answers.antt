use Rattle.std.proofs.Common.{◌≡◌, sym, subst}
use Rattle.std.specs.Prelude.{IfOk}
use Rattle.lane_pure.specs.Callers.{lists, with_calls}
use Rattle.typed_tree.proofs.StatementRows.{switch_is}
use Rattle.lane_pure.proofs.Rows.{block_is}
use Rattle.lane_pure.proofs.callers.+calling.Goals as goal

pub add_statement-returns-in-Block : goal.add_statement-returns-in-Block
add_statement-returns-in-Block t c =
    let whole = block_is c.args.statement.now c.in-Block.statements c.deref.result.now c.in-Block.is c.deref.ensures.value in
    subst (λ s. IfOk c.add_statements.result (λ _. lists c.add_statements.new.callers ≡ with_calls c.args.caller s (lists c.args.callers.now))) (sym whole) c.add_statements.ensures

pub add_statement-returns-in-Switch : goal.add_statement-returns-in-Switch
add_statement-returns-in-Switch t c =
    let whole = switch_is c.args.statement.now c.in-Switch.step c.in-Switch.selector c.in-Switch.segments c.deref-in-Switch.result.now c.in-Switch.is c.deref-in-Switch.ensures.value in
    subst (λ s. IfOk c.add_segments.result (λ _. lists c.add_segments.new.callers ≡ with_calls c.args.caller s (lists c.args.callers.now))) (sym whole) c.add_segments.ensures
