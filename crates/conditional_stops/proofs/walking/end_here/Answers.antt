use Rattle.std.proofs.Common.{sym, subst}
use Rattle.conditional_stops.specs.Reasons.{Asks}
use Rattle.conditional_stops.specs.Views.{table_of}
use Rattle.conditional_stops.specs.Walking.{EndsHere, reasons_on}
use Rattle.conditional_stops.proofs.Steps.{last_ended}
use Rattle.conditional_stops.proofs.walking.end_here.Goals as goal

pub returns-in-None : goal.returns-in-None
returns-in-None g c s began d st words sights here =
    let way = c.args.direction in
    let watches = c.args.watches.now in
    let table = table_of c.args.conditions.now in
    let after = table_of c.ask_each.new.conditions in
    let none = subst (λ first. Asks s d (reasons_on way s began d watches) table first after) c.in-None.is (c.ask_each.ensures s began d st words sights here) in
    subst (λ ended. EndsHere s way watches began d table ended after) (sym c.end_by.ensures)
    (last_ended s way watches began d table after c.last_answer.result none (sym (c.last_answer.ensures s d st)))
