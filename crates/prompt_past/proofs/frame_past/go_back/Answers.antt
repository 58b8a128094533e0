use Rattle.std.proofs.Common.{◌≡◌, ◌<◌, ◌≤◌, true, false, refl, sym, subst, ap, ◌∙◌, arith}
use Rattle.gang_model.specs.Debugger.Debugger.{DoReverseStep, do_command, kept_steps}
use Rattle.debug_session.specs.Sessions.{StandsFor, bare}
use Rattle.conditional_stops.specs.SightViews.{sight_view}
use Rattle.prompt_moves.specs.Moments.{led}
use Rattle.prompt_moves.proofs.MomentLaws.{moved_there}
use Rattle.prompt_past.specs.FramePast.{goes_on, to_change}
use Rattle.prompt_past.proofs.FrameWays.{led_back, led_last_back, led_no_back}
use Rattle.prompt_past.proofs.frame_past.go_back.Goals as goal

pub loop-left-init : goal.loop-left-init
loop-left-init g c s d st =
    let count : c.kept_steps-left.result ≡ kept_steps d = c.kept_steps-left.ensures.debugger s (bare d) (subst (λ m. g.M.RecordedMachine.stands m s (bare d)) (sym c.machine.ensures) st.there) in
    (d, st, ap (λ k. led s (to_change k s c.args.watch.now (sight_view c.args.shown.now) d) d) (sym count))

pub loop-left-preserved : goal.loop-left-preserved
loop-left-preserved g c s d st =
    let w = c.args.watch.now in
    let shown = sight_view c.args.shown.now in
    let (e, there, same) = c.loop-left.invariant s d st in
    let some : 0 < c.loop-left.left = omega (arith, c.loop-left-test.true) in
    let next = (do_command s (DoReverseStep 1) e).next in
    let at = moved_there g.M.RecordedMachine.stands s g.M.RecordedMachine.may_want (DoReverseStep 1) e c.do_command.result c.do_command.new.self refl (c.do_command.ensures.replied s e there) in
    let on : goes_on s w shown next ≡ true = sym (c.goes_on.ensures s next at) ∙ c.if-not-goes_on.false in
    (next, at, same ∙ led_back s w shown c.loop-left.left e some on)

pub returns-then-not-goes_on : goal.returns-then-not-goes_on
returns-then-not-goes_on g c s d st =
    let w = c.args.watch.now in
    let shown = sight_view c.args.shown.now in
    let (e, there, same) = c.loop-left.invariant s d st in
    let some : 0 < c.loop-left.left = omega (arith, c.loop-left-test.true) in
    let next = (do_command s (DoReverseStep 1) e).next in
    let at = moved_there g.M.RecordedMachine.stands s g.M.RecordedMachine.may_want (DoReverseStep 1) e c.do_command.result c.do_command.new.self refl (c.do_command.ensures.replied s e there) in
    let on : goes_on s w shown next ≡ false = sym (c.goes_on.ensures s next at) ∙ c.if-not-goes_on.true in
    subst (StandsFor g.M.RecordedMachine.stands c.do_command.new.self s) (sym (same ∙ led_last_back s w shown c.loop-left.left e some on)) at

pub returns : goal.returns
returns g c s d st =
    let (e, there, same) = c.loop-left.invariant s d st in
    let none : c.loop-left.left ≤ 0 = omega (arith, c.loop-left-test.false) in
    subst (StandsFor g.M.RecordedMachine.stands c.loop-left.session s) (sym (same ∙ led_no_back s c.args.watch.now (sight_view c.args.shown.now) c.loop-left.left e none)) there
