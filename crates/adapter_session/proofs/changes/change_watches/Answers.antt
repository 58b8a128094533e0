use Rattle.std.proofs.Common.{ap, sym, subst, ◌∙◌}
use Rattle.debug_answers.specs.Meanings.{AreStops}
use Rattle.debug_session.specs.Sessions.{bare}
use Rattle.adapter_session.specs.declared.lines.Kind.TheVariants as kind
use Rattle.adapter_session.specs.Changes.{change}
use Rattle.adapter_session.proofs.changes.change_watches.Goals as goal

pub returns : goal.returns
returns g c s d there =
    let functions = c.args.functions.now in
    let machine = subst (λ machine. g.M.RecordedMachine.stands machine s (bare d)) (sym c.machine.ensures) there.there in
    let are = subst (λ stops. AreStops s stops d.stops) (sym c.stops.ensures) there.stops in
    c.made_change.ensures s d.stops are
    ∙ ap (change kind.Watches functions d.stops) (c.in_ok-asked.ensures s (bare d) machine)
