use Rattle.std.proofs.Common.{sym, ap, ◌∙◌}
use Rattle.std.specs.Option.{option_or}
use Rattle.prompt_lines.specs.Readings.{spelled_option}
use Rattle.prompt_lines.specs.Lines.{list_or_look, own_or}
use Rattle.prompt_lines.proofs.reading.done_or_own.Goals as goal

pub returns-in-Some : goal.returns-in-Some
returns-in-Some c =
    let text = c.args.text.now in
    ap (λ found. own_or (option_or found (list_or_look text)) text) (sym (ap spelled_option c.in-Some.is) ∙ c.found_by.ensures)

pub returns-in-None : goal.returns-in-None
returns-in-None c =
    let text = c.args.text.now in
    c.own_or.ensures
    ∙ ap (λ found. own_or found text) c.list_or_look.ensures
    ∙ ap (λ found. own_or (option_or found (list_or_look text)) text) (sym (ap spelled_option c.in-None.is) ∙ c.found_by.ensures)
