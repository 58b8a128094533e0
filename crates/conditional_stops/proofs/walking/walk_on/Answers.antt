use Rattle.std.proofs.Common.{sym, subst}
use Rattle.conditional_stops.specs.declared.going.MoveEnd.{MoveEnd}
use Rattle.conditional_stops.specs.Views.{table_of}
use Rattle.conditional_stops.specs.Walking.{WalksOn}
use Rattle.conditional_stops.proofs.Steps.{nothing_noted}
use Rattle.conditional_stops.proofs.walking.walk_on.Goals as goal

pub returns-in-Ok : goal.returns-in-Ok
returns-in-Ok g c s d st = c.walk.ensures s d st (c.in-Ok.ensures s d st)

pub returns-in-Err : goal.returns-in-Err
returns-in-Err g c s d st =
    let stands = g.M.RecordedMachine.stands in
    let way = c.args.direction in
    let watches = c.args.watches.now in
    let table = table_of c.args.conditions.now in
    let session = c.args.session.now in
    subst (λ (ended : MoveEnd). WalksOn stands s way watches c.args.most d table (record { end = ended; passed = 0 }) session table) (sym c.end_without_memory.ensures)
    (nothing_noted stands s way watches c.args.most d table session st)
