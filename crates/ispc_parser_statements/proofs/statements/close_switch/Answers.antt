use Rattle.std.proofs.Common.{sym}
use Rattle.ispc_parser_shared.proofs.Fails.{fails_none}
use Rattle.ispc_parser_statements.proofs.statements.close_switch.Goals as goal

pub returns-in-None : goal.returns-in-None
returns-in-None c = fails_none c.too_many.result _ c.too_many.ensures (sym c.in-None.ensures)
