use Rattle.std.proofs.Common.{sym}
use Rattle.ispc_names_scopes.proofs.Choices.{last_of_three}
use Rattle.ispc_names_scopes.proofs.library.statement_call.Goals as goal

pub returns-else-is_same-3 : goal.returns-else-is_same-3
returns-else-is_same-3 c = last_of_three _ _ _ _ _ _ _ (sym c.if-is_same.ensures) (sym c.if-is_same-2.ensures) (sym c.if-is_same-3.ensures)
