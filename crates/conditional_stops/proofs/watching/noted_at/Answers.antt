use Rattle.std.proofs.Common.{ap, ◌∙◌, get_or, ℕ}
use Rattle.arrayvec.specs.ArrayVec.{ArrayVec}
use Rattle.debug_session.proofs.Watches.{noted_at}
use Rattle.conditional_stops.proofs.watching.noted_at.Goals as goal

pub returns-in-Some : goal.returns-in-Some
returns-in-Some c old others e =
    let (inside, is) = noted_at c.args.before.now.items c.args.place c.in-Some.noted.now old others e in
    c.as_slice.ensures.value ∙ ap (λ (x : ArrayVec ℕ). x.items) c.in-Some.ensures.lookup.1 ∙ ap (λ xs. (get_or xs c.args.place c.in-Some.noted.now).items) c.deref.ensures.value ∙ is
