use Rattle.std.proofs.Common.{sym, ◌∙◌}
use Rattle.prompt_lines.specs.Numbers.{names_number}
use Rattle.prompt_stops.proofs.Numbered.{is_not}
use Rattle.prompt_stops.proofs.numbers.add_if_named.Goals as goal

pub returns-then-not-names_number-clause-items : goal.returns-then-not-names_number-clause-items
returns-then-not-names_number-clause-items c =
    is_not (λ n. names_number n c.args.text.now) c.args.number c.args.numbers.now.items (sym c.names_number.ensures ∙ c.if-not-names_number.true) c.requires
