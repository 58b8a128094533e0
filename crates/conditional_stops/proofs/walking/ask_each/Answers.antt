use Rattle.std.proofs.Common.{sym, subst}
use Rattle.conditional_stops.specs.Reasons.{Asks, reasons}
use Rattle.conditional_stops.specs.Views.{table_of}
use Rattle.conditional_stops.specs.Walking.{reasons_on}
use Rattle.conditional_stops.specs.Watches.{changed_frames}
use Rattle.conditional_stops.proofs.Asked.{asks_on}
use Rattle.conditional_stops.proofs.walking.ask_each.Goals as goal

pub returns : goal.returns
returns g c s began d st words sights here =
    let watches = c.args.watches.now in
    let table = table_of c.args.conditions.now in
    let middle = table_of c.ask_all-stop.new.conditions in
    let new = table_of c.ask_frames-watch.new.conditions in
    subst (λ first. Asks s d (reasons_on c.args.direction s began d watches) table first new) (sym c.first_of.ensures)
    (asks_on s d (reasons s began d) (changed_frames c.args.direction s began d watches) table middle new c.ask_all-stop.result c.ask_frames-watch.result
    (c.ask_all-stop.ensures s began d st words) (c.ask_frames-watch.ensures s began d st sights here))
