use Rattle.std.proofs.Common.{sym, ap, ◌∙◌}
use Rattle.std.specs.Prelude.{option_and_then}
use Rattle.call_results.specs.Calls.{given_at}
use Rattle.prompt_values.proofs.returned.awaited_at.Goals as goal

pub returns-in-Some : goal.returns-in-Some
returns-in-Some g c s d st = c.awaited_of.ensures s d st (sym (c.spot.ensures s d st) ∙ c.in-Some.is)

pub returns-in-None : goal.returns-in-None
returns-in-None g c s d st = ap (option_and_then (given_at s.program)) (sym (c.spot.ensures s d st) ∙ c.in-None.is)
