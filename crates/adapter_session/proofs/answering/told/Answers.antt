use Rattle.std.proofs.Common.{inl, inr, refl, subst, sym}
use Rattle.debug_answers.specs.Meanings.{AreStops}
use Rattle.debug_session.specs.Sessions.{bare}
use Rattle.adapter_replies.specs.Told.{AreBreakpointsTold}
use Rattle.adapter_session.proofs.answering.told.Goals as goal

pub returns-in-Ok : goal.returns-in-Ok
returns-in-Ok g c s d meant there means =
    let machine = subst (λ machine. g.M.RecordedMachine.stands machine s (bare d)) (sym c.machine-machine.ensures) there.there in
    let are = subst (λ stops. AreStops s stops d.stops) (sym c.stops.ensures) there.stops in
    inr (record {
      stands = c.in-Ok.ensures.stands s (bare d) machine;
      answered = c.in-Ok.ensures.answered s (bare d) d meant machine refl are means;
      breakpoints = subst (λ b. AreBreakpointsTold s (bare d) b d.stops c.args.request.now c.in-Ok.reply) c.is_source_of-is_program.ensures (c.in-Ok.ensures.breakpoints s (bare d) d.stops machine are);
      fixed = c.in-Ok.ensures.fixed;
      refused = c.in-Ok.ensures.refused;
    })

pub returns-in-Err : goal.returns-in-Err
returns-in-Err g c s d meant there means = inl refl
