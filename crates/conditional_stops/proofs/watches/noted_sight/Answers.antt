use Rattle.std.proofs.Common.{ap, ◌∙◌, get_or, Some}
use Rattle.conditional_stops.specs.SightViews.{seen_view}
use Rattle.conditional_stops.proofs.Sighted.{sight_at}
use Rattle.conditional_stops.proofs.watches.noted_sight.Goals as goal

pub returns-in-Some : goal.returns-in-Some
returns-in-Some c old others e =
    let (inside, is) = sight_at c.args.sights.now.items c.args.place c.in-Some.noted.now old others e in
    ap Some (ap seen_view c.in-Some.ensures.lookup.1 ∙ ap (λ xs. seen_view (get_or xs c.args.place c.in-Some.noted.now)) c.deref.ensures.value ∙ is)
