use Rattle.std.proofs.Common.{ap, ◌∙◌}
use Rattle.std.specs.List.{position}
use Rattle.opened_texts.specs.Texts.{is_text, kept_view}
use Rattle.opened_texts.proofs.Places.{place_kept}
use Rattle.opened_texts.proofs.texts.OpenedTexts.place_of.Goals as goal

pub returns-clause-first : goal.returns-clause-first
returns-clause-first c =
    let depth = c.args.depth in
    let text = c.args.text.now in
    c.first_of.ensures.first
    ∙ ap (position (λ kept. is_text depth text (kept_view kept))) c.as_slice.ensures.value
    ∙ place_kept kept_view (is_text depth text) c.args.self.now.texts.items
