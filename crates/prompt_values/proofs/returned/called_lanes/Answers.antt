use Rattle.std.proofs.Common.{Some, None, refl, ap, ◌∙◌}
use Rattle.debug_traits.specs.Machines.{position_line}
use Rattle.prompt_values.proofs.returned.called_lanes.Goals as goal

pub returns-in-Some : goal.returns-in-Some
returns-in-Some g c s d st = record { place = Some c.in-Some.call; told = c.call.ensures.place s d st ∙ ap position_line c.in-Some.is; are = refl }

pub returns-in-None : goal.returns-in-None
returns-in-None g c s d st = record { place = None; told = c.call.ensures.place s d st ∙ ap position_line c.in-None.is; are = tt }
