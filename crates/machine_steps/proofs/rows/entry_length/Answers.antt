use Rattle.std.proofs.Common.{sym, ◌∙◌}
use Rattle.machine_steps.proofs.RowLengths.{array_rows, scalar_length}
use Rattle.machine_steps.proofs.rows.entry_length.Goals as goal

pub returns-else-is_array : goal.returns-else-is_array
returns-else-is_array c f given may =
    sym (scalar_length c.args.program.now c.args.entry f given c.args.rows.now may c.args.number (sym c.is_array.ensures ∙ c.if-is_array.false))

pub returns-then-is_array : goal.returns-then-is_array
returns-then-is_array c f given may =
    c.row_length.ensures given may.rows_are (array_rows c.args.program.now c.args.entry f given c.args.rows.now may c.args.number (sym c.is_array.ensures ∙ c.if-is_array.true))
