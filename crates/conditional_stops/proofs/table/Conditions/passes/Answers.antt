use Rattle.std.proofs.Common.{ap, None}
use Rattle.conditional_stops.specs.Tables.{or_zero}
use Rattle.conditional_stops.specs.Views.{count_view}
use Rattle.conditional_stops.proofs.Entries.{entry_found}
use Rattle.conditional_stops.proofs.table.Conditions.passes.Goals as goal

pub returns-in-Some : goal.returns-in-Some
returns-in-Some c = ap or_zero (entry_found count_view c.args.number c.args.self.now.counts.items _ c.in-Some.ensures)

pub returns-in-None : goal.returns-in-None
returns-in-None c = ap or_zero (entry_found count_view c.args.number c.args.self.now.counts.items None c.in-None.ensures)
