use Rattle.std.proofs.Common.{refl, sym, subst, ap, ◌∙◌}
use Rattle.debug_session.specs.Sessions.{bare}
use Rattle.debug_traits.specs.Machines.{depth_of, line_of_position}
use Rattle.debug_prompt.specs.Listing.{IsPlaceBy}
use Rattle.debug_prompt.proofs.listing.place.Goals as goal

pub returns-in-Some : goal.returns-in-Some
returns-in-Some g c s d st =
    let machine = subst (λ machine. g.M.RecordedMachine.stands machine s (bare d)) (sym c.machine-machine.ensures) st.there in
    let line = c.position.ensures.line s (bare d) machine ∙ ap line_of_position c.in-Some.is in
    let deep = c.position.ensures.depth s (bare d) machine ∙ ap depth_of c.in-Some.is in
    subst (λ top. IsPlaceBy s d c.args.frame top c.place_below.result) (sym line) (c.place_below.ensures s (bare d) machine (sym deep))

pub returns-in-None : goal.returns-in-None
returns-in-None g c s d st =
    let machine = subst (λ machine. g.M.RecordedMachine.stands machine s (bare d)) (sym c.machine-machine.ensures) st.there in
    let line = c.position.ensures.line s (bare d) machine ∙ ap line_of_position c.in-None.is in
    subst (λ top. IsPlaceBy s d c.args.frame top 1) (sym line) refl
