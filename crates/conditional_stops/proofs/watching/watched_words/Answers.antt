use Rattle.std.proofs.Common.{sym, subst, ap, ◌∙◌, Some}
use Rattle.gang_model.specs.Debugger.Debugger.{now, part_shown, shown_words}
use Rattle.debug_traits.specs.Machines.{ShowsNamed}
use Rattle.debug_session.specs.Sessions.{bare}
use Rattle.debug_session.proofs.Bare.{of_bare}
use Rattle.conditional_stops.proofs.watching.watched_words.Goals as goal

pub returns-in-None : goal.returns-in-None
returns-in-None g c s d target v st watch =
    let shown = (subst (λ o. ShowsNamed s (bare d) o (Some c.in-Some.named)) watch.is_file (c.in-Some.ensures.shown s (bare d) st)).1 in
    let few = c.in-Some.ensures.few (sym shown.is_array ∙ watch.is_scalar c.in-None.is) in
    c.scalar_words.ensures s d v st (of_bare s d v c.in-Some.named.shown shown) few
    ∙ sym (ap (λ at. part_shown at (shown_words (now s d) v)) (watch.part ∙ c.in-None.is))
