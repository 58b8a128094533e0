use Rattle.std.proofs.Common.{◌≡◌, ◌++◌, append_assoc, sym, subst}
use Rattle.gang_model.specs.Debugger.Debugger.{kept_steps}
use Rattle.command_lists.specs.Lists.{HasDone}
use Rattle.debug_session.specs.Sessions.{StandsFor, bare}
use Rattle.prompt_moves.specs.Moments.{led, steps_on, to_moment, walked}
use Rattle.prompt_moves.proofs.MomentLaws.{done_led, led_then}
use Rattle.prompt_walks.proofs.asking.ask_all.Goals as goal

pub returns : goal.returns
returns g c s d st limit =
    let stands = g.M.RecordedMachine.stands in
    let most = c.args.scene.most_steps in
    let back = to_moment 0 s d in
    let start = led s back d in
    let on = steps_on most s start in
    let e = led s on start in
    let last = to_moment (kept_steps d) s e in
    let new = c.move_to-2.new.session in
    let here : c.kept_steps-here.result ≡ kept_steps d = c.kept_steps-here.ensures.debugger s (bare d) (subst (λ x. stands x s (bare d)) (sym c.machine.ensures) st.there) in
    let at_start = c.move_to.ensures s d st in
    let behind = c.ask_on-asked.ensures s start at_start in
    let back_there = subst (λ k. StandsFor stands new s (led s (to_moment k s e) e)) here (c.move_to-2.ensures s e behind) in
    subst (λ k. HasDone stands s (walked k s d) d new) (sym limit)
    (subst (λ cs. HasDone stands s cs d new) (sym (append_assoc back on last))
    (led_then stands s back (on ++ last) d new (led_then stands s on last start new (done_led stands s last e new back_there))))
