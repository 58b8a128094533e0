use Rattle.std.proofs.Common.{[], ◌∷◌, ◌++◌, ap, ◌∙◌}
use Rattle.prompt_lines.specs.Words.{held_text}
use Rattle.prompt_lines.proofs.HeldTexts.{held_joined}
use Rattle.prompt_lines.proofs.reading.joined.Goals as goal

pub returns : goal.returns
returns c =
    c.hold-2.ensures.text ∙ ap (λ l. held_text (l ++ c.args.rest.now)) (c.hold.ensures.text ∙ ap (λ l. held_text (l ++ 32 ∷ [])) c.held_line-held.ensures.text)
    ∙ held_joined c.args.own.now c.args.rest.now
