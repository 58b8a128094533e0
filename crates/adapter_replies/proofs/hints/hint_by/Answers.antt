use Rattle.std.proofs.Common.{◌∙◌, ap, sym}
use Rattle.adapter_replies.specs.Hints.{hint_by}
use Rattle.adapter_replies.proofs.hints.hint_by.Goals as goal

pub returns-in-Some : goal.returns-in-Some
returns-in-Some c = ap (hint_by c.args.is_alone) (sym c.in-Some.is ∙ c.hint_of.ensures)

pub returns-in-None : goal.returns-in-None
returns-in-None c = ap (hint_by c.args.is_alone) (sym c.in-None.is ∙ c.hint_of.ensures)
