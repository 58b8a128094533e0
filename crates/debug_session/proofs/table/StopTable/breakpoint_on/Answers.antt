use Rattle.std.proofs.Common.{sym, ap, ◌∙◌}
use Rattle.gang_model.specs.Debugger.Debugger.{first_stop, on_line}
use Rattle.debug_session.proofs.Turns.{first_nowhere}
use Rattle.debug_session.proofs.table.StopTable.breakpoint_on.Goals as goal

pub returns-in_err-line : goal.returns-in_err-line
returns-in_err-line c s meant are = c.from_residual.ensures ∙ sym (ap (λ line. first_stop (on_line line) meant) c.in_err-line.was ∙ first_nowhere meant)
