use Rattle.std.proofs.Common.{sym, ap, ◌∙◌}
use Rattle.prompt_lines.specs.Readings.{spelled_option}
use Rattle.prompt_lines.specs.Lines.{letters_or}
use Rattle.prompt_lines.proofs.reading.letters_or.Goals as goal

pub returns-in-Some : goal.returns-in-Some
returns-in-Some c =
    ap (λ found. letters_or found c.args.text.now) (sym (ap spelled_option c.in-Some.is) ∙ c.found_by.ensures)

pub returns-in-None : goal.returns-in-None
returns-in-None c =
    c.done_or_own.ensures
    ∙ ap (λ found. letters_or found c.args.text.now) (sym (ap spelled_option c.in-None.is) ∙ c.found_by.ensures)
