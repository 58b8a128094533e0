use Rattle.std.proofs.Common.{sym, ap, ◌∙◌}
use Rattle.std.specs.Option.{option_or}
use Rattle.prompt_lines.specs.Readings.{spelled_option}
use Rattle.prompt_lines.specs.Lines.{look_or_begun}
use Rattle.prompt_lines.proofs.reading.list_or_look.Goals as goal

pub returns-in-None : goal.returns-in-None
returns-in-None c =
    c.look_or_begun.ensures
    ∙ ap (λ found. option_or found (look_or_begun c.args.text.now)) (sym (ap spelled_option c.in-None.is) ∙ c.listed.ensures)
