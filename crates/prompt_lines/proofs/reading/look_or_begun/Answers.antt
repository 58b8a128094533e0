use Rattle.std.proofs.Common.{sym, ap, ◌∙◌}
use Rattle.std.specs.Option.{option_or}
use Rattle.prompt_lines.specs.Readings.{spelled_option}
use Rattle.prompt_lines.specs.Fronts.{begun}
use Rattle.prompt_lines.proofs.reading.look_or_begun.Goals as goal

pub returns-in-Some : goal.returns-in-Some
returns-in-Some c =
    ap (λ found. option_or found (begun c.args.text.now)) (sym (ap spelled_option c.in-Some.is) ∙ c.found_by.ensures)

pub returns-in-None : goal.returns-in-None
returns-in-None c =
    c.begun.ensures
    ∙ ap (λ found. option_or found (begun c.args.text.now)) (sym (ap spelled_option c.in-None.is) ∙ c.found_by.ensures)
