use Rattle.std.proofs.Common.{ap, ◌∙◌}
use Rattle.std.specs.Prelude.{nat_eq}
use lib.Pointwise.{pointwise}
use Rattle.gang_model.specs.Source.Names.{same_text}
use Rattle.gang_model.proofs.SameTexts.{pointwise-same_text}
use Rattle.conditional_stops.proofs.watching.shows.Goals as goal

pub returns : goal.returns
returns g c s d target v st watch =
    c.eq.ensures ∙ ap (λ words. pointwise nat_eq c.args.noted.now words) c.as_slice.ensures.value ∙ pointwise-same_text c.args.noted.now c.watched_words.result.items
    ∙ ap (same_text c.args.noted.now) (c.watched_words.ensures s d target v st watch)
