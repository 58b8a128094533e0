use Rattle.std.proofs.Common.{refl, sym}
use Rattle.prompt_walks.proofs.lanes_told.chosen_at.Goals as goal

pub returns-in-Some : goal.returns-in-Some
returns-in-Some g c s d there = (c.in-Some.spot, sym (c.in-Some.ensures s d there), refl)
