use Rattle.std.proofs.Common.{◌≡◌, ◌<◌, ◌++◌, append_assoc, ap, sym, subst, ◌∙◌}
use Rattle.std.specs.Prelude.{◌^◌}
use Rattle.gang_model.specs.Debugger.Debugger.{kept_steps, now}
use Rattle.command_lists.specs.Lists.{HasDone}
use Rattle.debug_session.specs.Sessions.{StandsFor, bare}
use Rattle.lane_profile.specs.Stands.{stands_of}
use Rattle.prompt_moves.specs.Moments.{led, steps_on, to_moment}
use Rattle.prompt_moves.proofs.MomentLaws.{done_led, led_then}
use Rattle.prompt_walks.specs.LanesTold.{at_start, counted}
use Rattle.prompt_walks.proofs.lanes_told.count_so_far.Goals as goal

pub returns-clause-done : goal.returns-clause-done
returns-clause-done g c s d st =
    let stands = g.M.RecordedMachine.stands in
    let back = to_moment 0 s d in
    let start = led s back d in
    let new = c.move_to-2.new.session in
    let here : c.kept_steps-here.result ≡ kept_steps d = c.kept_steps-here.ensures.debugger s (bare d) (subst (λ x. stands x s (bare d)) (sym c.machine.ensures) st.there) in
    let on = steps_on (kept_steps d) s start in
    let e = led s on start in
    let last = to_moment (kept_steps d) s e in
    let behind = subst (λ k. StandsFor stands c.count_on-so_far.new.session s (led s (steps_on k s start) start)) here (c.count_on-so_far.ensures.stands s start (c.move_to.ensures s d st)) in
    let back_there = subst (λ k. StandsFor stands new s (led s (to_moment k s e) e)) here (c.move_to-2.ensures s e behind) in
    subst (λ cs. HasDone stands s cs d new) (sym (append_assoc back on last))
    (led_then stands s back (on ++ last) d new (led_then stands s on last start new (done_led stands s last e new back_there)))

pub returns-clause-counted : goal.returns-clause-counted
returns-clause-counted g c s d st limit small =
    let stands = g.M.RecordedMachine.stands in
    let here : c.kept_steps-here.result ≡ kept_steps d = c.kept_steps-here.ensures.debugger s (bare d) (subst (λ x. stands x s (bare d)) (sym c.machine.ensures) st.there) in
    let few : c.kept_steps-here.result < 2 ^ 36 = subst (λ n. n < 2 ^ 36) (sym here) small in
    let start = at_start s d in (
      c.count_on-so_far.ensures.counted s start (c.move_to.ensures s d st) limit few ∙ ap (λ n. counted s.program c.args.chosen (stands_of s.program n (now s start))) here,
      c.count_on-so_far.ensures.few few,
    )
