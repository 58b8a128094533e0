use Rattle.std.proofs.Common.{ap, ◌∙◌, None, Some}
use Rattle.conditional_stops.specs.Views.{condition_view}
use Rattle.conditional_stops.proofs.Entries.{entry_found}
use Rattle.conditional_stops.proofs.table.Conditions.condition.Goals as goal

pub returns-in-Some : goal.returns-in-Some
returns-in-Some c = ap Some c.as_slice.ensures.value ∙ entry_found condition_view c.args.number c.args.self.now.conditions.items _ c.in-Some.ensures

pub returns-in-None : goal.returns-in-None
returns-in-None c = entry_found condition_view c.args.number c.args.self.now.conditions.items None c.in-None.ensures
