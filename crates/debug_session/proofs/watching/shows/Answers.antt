use Rattle.std.proofs.Common.{sym, subst, ap, ◌∙◌, ◌∷◌, [], Some}
use Rattle.std.specs.Prelude.{nat_eq}
use lib.Pointwise.{pointwise}
use Rattle.gang_model.specs.Source.Names.{same_text}
use Rattle.gang_model.specs.Debugger.Debugger.{now, part_shown, shown_words}
use Rattle.gang_model.proofs.SameTexts.{pointwise-same_text}
use Rattle.debug_traits.specs.Machines.{ShowsNamed}
use Rattle.debug_session.specs.Sessions.{bare}
use Rattle.debug_session.proofs.Bare.{of_bare}
use Rattle.debug_session.proofs.watching.shows.Goals as goal

pub returns-in-None : goal.returns-in-None
returns-in-None g c s d target v st watch =
    let shown = (subst (λ o. ShowsNamed s (bare d) o (Some c.in-Some.named)) watch.is_file (c.in-Some.ensures.shown s (bare d) st)).1 in
    c.scalar_shows.ensures s d v st (of_bare s d v c.in-Some.named.shown shown)
    ∙ sym (ap (λ at. same_text c.args.noted.now (part_shown at (shown_words (now s d) v))) (watch.part ∙ c.in-None.is))

pub returns-in-Some-at : goal.returns-in-Some-at
returns-in-Some-at g c s d target v st watch =
    let shown = (subst (λ o. ShowsNamed s (bare d) o (Some c.in-Some.named)) watch.is_file (c.in-Some.ensures.shown s (bare d) st)).1 in
    let word = c.word_or_zero.ensures s d v st (of_bare s d v c.in-Some.named.shown shown) in
    c.eq.ensures ∙ ap (λ words. pointwise nat_eq c.args.noted.now words) c.as_slice.ensures ∙ pointwise-same_text c.args.noted.now (c.word_or_zero.result ∷ []) ∙ ap (λ word. same_text c.args.noted.now (word ∷ [])) word
    ∙ sym (ap (λ at. same_text c.args.noted.now (part_shown at (shown_words (now s d) v))) (watch.part ∙ c.in-Some-at.is))
