use Rattle.std.proofs.Common.{◌≡◌, ◌∙◌, false, Some, None, refl, sym, subst}
use Rattle.gang_model.specs.Debugger.Debugger.{has_ended, now}
use Rattle.gang_model.specs.Debugger.Positions.{spot_now}
use Rattle.debug_session.proofs.Ending.{ended_by}
use Rattle.lane_profile.specs.Counted.{IsNext}
use Rattle.lane_profile.proofs.Placing.{is_at, no_spot, placed, spot_top, within}
use Rattle.lane_profile.proofs.run.next_step.Goals as goal

pub returns-in_err-position : goal.returns-in_err-position
returns-in_err-position g c s d there =
    subst (IsNext s.program (now s d)) (sym c.from_residual.ensures) (sym (ended_by s.program (now s d).frames None (c.in_err-position.ensures.place s d there)))

pub returns-in_err-spot : goal.returns-in_err-spot
returns-in_err-spot g c s d there =
    let position = c.in_ok-position.position in
    let deep = c.in_ok-position.ensures.depth s d there in
    let goes : has_ended (now s d) ≡ false = sym (ended_by s.program (now s d).frames (Some position) (c.in_ok-position.ensures.place s d there)) in
    let none : spot_now s.program (now s d) ≡ None =
    sym (spot_top s.program position (now s d) position.depth (within s.program position (now s d).frames position.depth deep)) ∙ sym (c.in_err-spot.ensures s d there) in
    absurd (no_spot s.program position (now s d) goes none)

pub returns : goal.returns
returns g c s d there =
    let position = c.in_ok-position.position in
    let place = c.in_ok-position.ensures.place s d there in
    let deep = c.in_ok-position.ensures.depth s d there in
    let goes : has_ended (now s d) ≡ false = sym (ended_by s.program (now s d).frames (Some position) place) in
    let here = placed s.program position (now s d) place (c.in_ok-position.ensures.line s d there) deep in
    (goes, is_at s.program position (now s d) c.in_ok-spot.spot _ here deep (sym (c.in_ok-spot.ensures s d there)) refl (c.of.ensures c.in_ok-position.ensures.width))
