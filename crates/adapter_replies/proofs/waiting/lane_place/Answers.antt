use Rattle.std.proofs.Common.{◌∙◌, sym, ap}
use Rattle.gang_model.specs.Debugger.Positions.{standing_at, standing_of}
use Rattle.adapter_replies.specs.Waiting.{standing_place}
use Rattle.adapter_replies.proofs.waiting.lane_place.Goals as goal

pub returns-in-Some : goal.returns-in-Some
returns-in-Some g c s d st =
    c.step_place.ensures
    ∙ ap (λ p. standing_place (standing_at p c.in-Some.spot)) (sym (c.program.ensures s d st))
    ∙ ap (λ found. standing_place (standing_of s.program found)) (sym c.in-Some.is ∙ c.lane_spot.ensures s d st)
