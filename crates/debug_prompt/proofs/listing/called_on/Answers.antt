use Rattle.std.proofs.Common.{Some, None, refl, ap, ◌∙◌}
use Rattle.debug_traits.specs.Machines.{position_line}
use Rattle.debug_prompt.proofs.listing.called_on.Goals as goal

pub returns-in-Some : goal.returns-in-Some
returns-in-Some g c s d st = (Some c.in-Some.position, c.call.ensures.place s d st ∙ ap position_line c.in-Some.is, refl)

pub returns-in-None : goal.returns-in-None
returns-in-None g c s d st = (None, c.call.ensures.place s d st ∙ ap position_line c.in-None.is, refl)
