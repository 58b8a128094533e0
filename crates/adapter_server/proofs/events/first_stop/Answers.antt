use Rattle.std.proofs.Common.{ap, refl, subst, sym, ◌∙◌}
use Rattle.gang_model.specs.Texts.Text.{text}
use Rattle.debug_answers.specs.Meanings.{AreStops}
use Rattle.debug_session.specs.Sessions.{bare}
use Rattle.adapter_replies.specs.Meanings.{told_text}
use Rattle.adapter_server.specs.Events.{Stops}
use Rattle.adapter_server.proofs.events.first_stop.Goals as goal

pub returns : goal.returns
returns g c s d meant there means =
    let machine = subst (λ machine. g.M.RecordedMachine.stands machine s (bare d)) (sym c.machine.ensures) there.there in
    let are = subst (λ stops. AreStops s stops d.stops) (sym c.stops.ensures) there.stops in
    ap (λ words. Stops c.args.reason c.thread_of-thread.result words) (c.in_ok-text.ensures s (bare d) d meant machine refl are means)
    ∙ ap (λ thread. Stops c.args.reason thread (told_text c.args.answer.now (text s meant d))) (c.thread_of-thread.ensures s d there)
