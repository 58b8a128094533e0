use Rattle.std.proofs.Common.{sym, subst}
use Rattle.conditional_stops.specs.Reasons.{Asks, breakpoints_here, changed_watches, reasons}
use Rattle.conditional_stops.specs.Views.{table_of}
use Rattle.conditional_stops.proofs.Asked.{asks_on}
use Rattle.conditional_stops.proofs.asking.ask_all.Goals as goal

pub returns : goal.returns
returns g c s began d st words =
    let table = table_of c.args.conditions.now in
    let middle = table_of c.ask_breakpoints-breakpoint.new.conditions in
    let new = table_of c.ask_watches-watch.new.conditions in
    subst (λ first. Asks s d (reasons s began d) table first new) (sym c.first_of.ensures)
    (asks_on s d (breakpoints_here s d d.stops) (changed_watches s began d d.stops) table middle new c.ask_breakpoints-breakpoint.result c.ask_watches-watch.result
    (c.ask_breakpoints-breakpoint.ensures s d st) (c.ask_watches-watch.ensures s began d st words))
