use Rattle.std.proofs.Common.{ap, subst, sym, ◌∙◌}
use Rattle.std.specs.Prelude.{◌==◌, ◌&&◌}
use Rattle.std.specs.List.{list_any}
use Rattle.gang_model.specs.Debugger.Debugger.{on_line}
use Rattle.debug_answers.specs.Meanings.{AreStops}
use Rattle.debug_session.specs.Sessions.{bare}
use Rattle.log_points.proofs.Here.{among_is, nowhere}
use Rattle.log_points.proofs.writing.is_here.Goals as goal

pub returns-in-Some : goal.returns-in-Some
returns-in-Some g c s d st =
    let number = c.args.number in
    let machine = subst (λ m. g.M.RecordedMachine.stands m s (bare d)) (sym c.machine.ensures) st.there in
    let are = subst (λ stops. AreStops s stops d.stops) (sym c.stops.ensures) st.stops in
    c.is_among.ensures
    ∙ among_is s number c.in-Some.line c.stops.result.now d.stops are
    ∙ sym (ap (λ line. list_any (λ entry. (entry.0 == number) && on_line line entry.1) d.stops) (c.line_of.ensures s (bare d) machine ∙ c.in-Some.is))

pub returns-in-None : goal.returns-in-None
returns-in-None g c s d st =
    let number = c.args.number in
    let machine = subst (λ m. g.M.RecordedMachine.stands m s (bare d)) (sym c.machine.ensures) st.there in
    sym (ap (λ line. list_any (λ entry. (entry.0 == number) && on_line line entry.1) d.stops) (c.line_of.ensures s (bare d) machine ∙ c.in-None.is) ∙ nowhere number d.stops)
