use Rattle.std.proofs.Common.{ap, ◌∙◌}
use Rattle.std.specs.Prelude.{◌==◌}
use Rattle.std.specs.List.{list_any}
use Rattle.debug_answers.specs.declared.stops.NumberedStop.{NumberedStop}
use Rattle.prompt_stops.proofs.StopNumbers.{same_numbers}
use Rattle.prompt_stops.proofs.breaking.is_there.Goals as goal

pub returns : goal.returns
returns g c s d st =
    let number = c.args.number in
    c.has_number.ensures ∙ ap (list_any (λ (entry : NumberedStop). entry.number == number)) c.stops.ensures ∙ same_numbers s number c.args.session.now.stops.items d.stops st.stops
