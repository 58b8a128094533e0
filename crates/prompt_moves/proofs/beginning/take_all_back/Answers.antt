use Rattle.std.proofs.Common.{◌≡◌, replicate, sym, subst, ap, ◌∙◌}
use Rattle.gang_model.specs.Debugger.Debugger.{DoUndo}
use Rattle.debug_session.specs.Sessions.{StandsFor, bare}
use Rattle.prompt_moves.specs.Moments.{led}
use Rattle.prompt_moves.proofs.MomentLaws.{led_all}
use Rattle.prompt_moves.proofs.beginning.take_all_back.Goals as goal

pub returns : goal.returns
returns g c s d st =
    let stands = g.M.RecordedMachine.stands in
    let count : c.kept.result ≡ d.kept = c.kept.ensures.debugger s (bare d) (subst (λ m. stands m s (bare d)) (sym c.machine.ensures) st.there) in
    subst (StandsFor stands c.repeat.new.session s) (ap (λ n. led s (replicate n DoUndo) d) count ∙ led_all s d) (c.repeat.ensures s d st)
