use Rattle.std.proofs.Common.{sym, subst, ap, ◌∙◌}
use Rattle.gang_model.specs.Debugger.Debugger.{first_stop, on_line}
use Rattle.debug_session.specs.Sessions.{bare}
use Rattle.debug_session.proofs.Turns.{first_nowhere}
use Rattle.prompt_moves.proofs.pieces.stop_on.Goals as goal

pub returns-in-None : goal.returns-in-None
returns-in-None g c s d st =
    let there = subst (λ m. g.M.RecordedMachine.stands m s (bare d)) (sym c.machine.ensures) st.there in
    sym (ap (λ line. first_stop (on_line line) d.stops) (sym (c.line_from.ensures s (bare d) there) ∙ c.in-None.is) ∙ first_nowhere d.stops)
