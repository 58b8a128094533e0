use Rattle.std.proofs.Common.{◌≡◌, sym, subst}
use Rattle.gang_model.specs.Debugger.Debugger.{kept_steps}
use Rattle.debug_session.specs.Sessions.{StandsFor, bare}
use Rattle.conditional_stops.specs.SightViews.{sight_view}
use Rattle.conditional_stops.specs.Sights.{sight}
use Rattle.prompt_moves.specs.Moments.{led}
use Rattle.prompt_past.specs.FramePast.{to_change}
use Rattle.prompt_past.proofs.frame_past.back_to_change.Goals as goal

pub returns : goal.returns
returns g c s d st =
    let stands = g.M.RecordedMachine.stands in
    let w = c.args.watch.now in
    let shown : sight_view c.sight-shown.result ≡ sight s d w = c.sight-shown.ensures s d (subst (λ m. stands m s (bare d)) (sym c.machine.ensures) st.there) in
    (subst (λ x. StandsFor stands c.go_back.new.session s (led s (to_change (kept_steps d) s w x d) d)) shown (c.go_back.ensures s d st), shown)
