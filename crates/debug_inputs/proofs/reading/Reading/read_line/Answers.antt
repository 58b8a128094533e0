use Rattle.std.proofs.Common.{sym}
use Rattle.debug_inputs.proofs.LinesRead.{line_read}
use Rattle.debug_inputs.proofs.reading.Reading.read_line.Goals as goal

pub returns-else-is_skipped : goal.returns-else-is_skipped
returns-else-is_skipped c = λ receivers rows stands. line_read receivers rows c.args.number c.args.line.now _ c.read_row.new.self c.read_row.result (sym c.if-is_skipped.ensures) (c.read_row.ensures receivers rows stands)
