use Rattle.std.proofs.Common.{ap, ◌∙◌}
use Rattle.std.proofs.lemmas.List.{take_rest}
use Rattle.adapter_session.specs.Given.{all_numbers}
use Rattle.adapter_session.proofs.TermLists.{those_behind}
use Rattle.adapter_session.proofs.terms.behind.Goals as goal

pub returns-then-many-stops : goal.returns-then-many-stops
returns-then-many-stops c = ap all_numbers (take_rest c.args.stops.now c.args.many) ∙ those_behind c.args.many c.args.stops.now
