use Rattle.std.proofs.Common.{◌≡◌, true, None, sym, ap, ◌∙◌}
use Rattle.std.specs.Prelude.{if◌then◌else◌}
use Rattle.prompt_lines.specs.Conditions.{behind_first, first_word}
use Rattle.prompt_lines.specs.Fronts.{by_front, is_info, lists}
use Rattle.prompt_lines.proofs.fronts.listed.Goals as goal

pub returns-then-is_info : goal.returns-then-is_info
returns-then-is_info c =
    let text = c.args.text.now in
    let named : is_info (first_word text) ≡ true = sym (ap is_info c.split_word.ensures.word) ∙ sym c.is_info.ensures ∙ c.if-is_info.true in
    c.by_front.ensures
    ∙ ap (by_front 1 lists) c.split_word.ensures.rest
    ∙ sym (ap (λ is. if is then by_front 1 lists (behind_first text) else None) named)
