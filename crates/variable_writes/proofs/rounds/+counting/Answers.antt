use Rattle.std.proofs.Common.{◌≡◌, ◌+◌, ap, arith, min, sym, ◌∙◌}
use Rattle.gang_model.specs.Running.Step.{steps_of}
use Rattle.typed_tree.specs.Views.{segments_view, stmt_view}
use Rattle.typed_tree.proofs.StatementRows.{switch_is}
use Rattle.variable_writes.specs.Steps.{greatest}
use Rattle.variable_writes.proofs.Rows.{block_is}
use Rattle.variable_writes.proofs.rounds.+counting.Goals as goal

pub steps_in-returns-in-Block : goal.steps_in-returns-in-Block
steps_in-returns-in-Block t c =
    c.steps_in_all.ensures
    ∙ ap (λ s. min (steps_of s) greatest) (sym (block_is c.args.statement.now c.in-Block.statements c.deref.result.now c.in-Block.is c.deref.ensures.value))

pub steps_in-returns-in-Switch : goal.steps_in-returns-in-Switch
steps_in-returns-in-Switch t c =
    let steps : steps_of (stmt_view c.args.statement.now) ≡ 1 + steps_of (segments_view c.deref-in-Switch.result.now) =
    ap steps_of (switch_is c.args.statement.now c.in-Switch.step c.in-Switch.selector c.in-Switch.segments c.deref-in-Switch.result.now c.in-Switch.is c.deref-in-Switch.ensures.value) in
    omega (arith, steps, c.saturating_add-in-Switch.ensures, c.steps_in_segments.ensures)
