use Rattle.std.proofs.Common.{ap, sym, ◌∙◌}
use Rattle.typed_tree.proofs.StatementRows.{switch_is}
use Rattle.variable_writes.specs.Writes.{sets}
use Rattle.variable_writes.proofs.Rows.{block_is}
use Rattle.variable_writes.proofs.setting.+setting.Goals as goal

pub statement_sets-returns-in-Block : goal.statement_sets-returns-in-Block
statement_sets-returns-in-Block t c =
    c.statements_set.ensures ∙ ap (sets c.args.id c.args.number) (sym (block_is c.args.statement.now c.in-Block.statements c.deref.result.now c.in-Block.is c.deref.ensures.value))

pub statement_sets-returns-in-Switch : goal.statement_sets-returns-in-Switch
statement_sets-returns-in-Switch t c =
    c.segments_set.ensures
    ∙ ap (sets c.args.id c.args.number) (sym (switch_is c.args.statement.now c.in-Switch.step c.in-Switch.selector c.in-Switch.segments c.deref-in-Switch.result.now c.in-Switch.is c.deref-in-Switch.ensures.value))
