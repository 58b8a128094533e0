use Rattle.std.proofs.Common.{◌≡◌, ◌<◌, ◌≤◌, true, false, refl, sym, subst, ap, ◌∙◌, arith}
use Rattle.std.specs.Prelude.{is_none}
use Rattle.debug_session.specs.Sessions.{StandsFor}
use Rattle.conditional_stops.specs.Sights.{differ, sight}
use Rattle.prompt_moves.specs.Moments.{led}
use Rattle.prompt_past.specs.FramePast.{back_to_change}
use Rattle.prompt_past.proofs.FrameWays.{led_change, led_last_change, led_no_change}
use Rattle.prompt_past.proofs.frame_past.tell_back.Goals as goal

pub loop-left-init : goal.loop-left-init
loop-left-init g c s d st = (d, st, refl)

pub loop-left-preserved : goal.loop-left-preserved
loop-left-preserved g c s d st =
    let w = c.args.watch.now in
    let (e, there, same) = c.loop-left.invariant s d st in
    let some : 0 < c.loop-left.left = omega (arith, c.loop-left-test.true) in
    let (at, was) = c.back_to_change-shown.ensures s e there in
    let next = led s (back_to_change s w e) e in
    let found : differ (sight s e w) (sight s next w) ≡ true =
    ap (λ x. differ x (sight s next w)) (sym was) ∙ sym (c.end_of.ensures s next at) ∙ ap is_none c.in_default.is in
    (next, at, same ∙ led_change s w c.loop-left.left e next some refl found)

pub returns-in-Some : goal.returns-in-Some
returns-in-Some g c s d st =
    let w = c.args.watch.now in
    let (e, there, same) = c.loop-left.invariant s d st in
    let some : 0 < c.loop-left.left = omega (arith, c.loop-left-test.true) in
    let (at, was) = c.back_to_change-shown.ensures s e there in
    let next = led s (back_to_change s w e) e in
    let found : differ (sight s e w) (sight s next w) ≡ false =
    ap (λ x. differ x (sight s next w)) (sym was) ∙ sym (c.end_of.ensures s next at) ∙ ap is_none c.in-Some.is in
    subst (StandsFor g.M.RecordedMachine.stands c.back_to_change-shown.new.session s) (sym (same ∙ led_last_change s w c.loop-left.left e next some refl found)) at

pub returns : goal.returns
returns g c s d st =
    let (e, there, same) = c.loop-left.invariant s d st in
    let none : c.loop-left.left ≤ 0 = omega (arith, c.loop-left-test.false) in
    subst (StandsFor g.M.RecordedMachine.stands c.loop-left.session s) (sym (same ∙ led_no_change s c.args.watch.now c.loop-left.left e none)) there
