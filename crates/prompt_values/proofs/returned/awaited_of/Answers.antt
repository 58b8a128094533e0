use Rattle.std.proofs.Common.{refl, sym, ap, ◌∙◌}
use Rattle.std.specs.Prelude.{option_and_then}
use Rattle.call_results.specs.Calls.{given_at}
use Rattle.prompt_values.proofs.returned.awaited_of.Goals as goal

pub returns-in-Some : goal.returns-in-Some
returns-in-Some g c s d st is =
    record {
      spot = c.args.spot;
      stands = is;
      caller = refl;
      given = ap (λ p. given_at p c.args.spot) (c.program.ensures s d st) ∙ sym c.given_at.ensures ∙ c.in-Some.is;
      lanes = c.called_lanes.ensures s d st;
    }

pub returns-in-None : goal.returns-in-None
returns-in-None g c s d st is =
    ap (option_and_then (given_at s.program)) is
    ∙ ap (λ p. given_at p c.args.spot) (c.program.ensures s d st) ∙ sym c.given_at.ensures ∙ c.in-None.is
