use Rattle.std.proofs.Common.{◌≡◌, ◌∷◌, ◌-◌, Some, sym, subst, ap, ◌∙◌}
use Rattle.gang_model.specs.Debugger.Debugger.{DoDelete, do_command, kept_steps}
use Rattle.debug_session.specs.Sessions.{StandsFor, bare}
use Rattle.prompt_moves.specs.Moments.{led, steps_on, stops_back}
use Rattle.prompt_moves.proofs.MomentLaws.{done_led, led_then, one_led}
use Rattle.prompt_past.proofs.past.tell_watched.Goals as goal

pub returns : goal.returns
returns g c s d st =
    let stands = g.M.RecordedMachine.stands in
    let number = c.args.number in
    let back = stops_back c.args.most s d in
    let m = led s back d in
    let e = (do_command s (DoDelete (Some number)) m).next in
    let new = c.step_on.new.session in
    let there = c.unwatch.ensures s m (c.tell_back.ensures s d st) in
    let before : c.kept_steps-steps.result ≡ kept_steps d = c.kept_steps-steps.ensures.debugger s (bare d) (subst (λ x. stands x s (bare d)) (sym c.machine.ensures) st.there) in
    let here : c.kept_steps-here.result ≡ kept_steps e = c.kept_steps-here.ensures.debugger s (bare e) (subst (λ x. stands x s (bare e)) (sym c.machine-2.ensures) there.there) in
    let count : c.saturating_sub.result ≡ kept_steps d - kept_steps e = c.saturating_sub.ensures ∙ ap (λ k. k - c.kept_steps-here.result) before ∙ ap (λ k. kept_steps d - k) here in
    led_then stands s back (DoDelete (Some number) ∷ steps_on (kept_steps d - kept_steps e) s e) d new
    (one_led stands s (DoDelete (Some number)) (steps_on (kept_steps d - kept_steps e) s e) m new
    (done_led stands s (steps_on (kept_steps d - kept_steps e) s e) e new (subst (λ k. StandsFor stands new s (led s (steps_on k s e) e)) count (c.step_on.ensures s e there))))
