use Rattle.std.proofs.Common.{sym, ap}
use Rattle.gang_types.specs.declared.places.Spot.{Spot}
use Rattle.prompt_walks.proofs.lanes_told.chosen_top.Goals as goal

pub returns-in-Some : goal.returns-in-Some
returns-in-Some g c s d there =
    let placed = c.in-Some.ensures s d there in
    (placed.0, sym placed.1.line, ap (λ (x : Spot). x.function.0) (sym placed.1.spot))

pub returns-in-None : goal.returns-in-None
returns-in-None g c s d there = c.in-None.ensures s d there
