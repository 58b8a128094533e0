use Rattle.std.proofs.Common.{sym, subst}
use Rattle.debug_session.specs.Sessions.{bare}
use Rattle.prompt_moves.proofs.PieceLaws.{stands_nowhere}
use Rattle.prompt_moves.proofs.pieces.stop_here.Goals as goal

pub returns-in-None : goal.returns-in-None
returns-in-None g c s d st =
    stands_nowhere s d c.position.result (c.position.ensures.line s (bare d) (subst (λ m. g.M.RecordedMachine.stands m s (bare d)) (sym c.machine.ensures) st.there)) c.in-None.is
