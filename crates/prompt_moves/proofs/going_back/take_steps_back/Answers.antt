use Rattle.std.proofs.Common.{◌≡◌, ◌<◌, ◌≤◌, refl, sym, subst, ◌∙◌, arith}
use Rattle.gang_model.specs.Debugger.Debugger.{DoReverseStep, taken_back}
use Rattle.debug_session.specs.Sessions.{StandsFor, bare}
use Rattle.prompt_moves.proofs.MomentLaws.{led_never}
use Rattle.prompt_moves.proofs.StepsBack.{none_left, some_kept}
use Rattle.prompt_moves.proofs.going_back.take_steps_back.Goals as goal

pub loop-taken-init : goal.loop-taken-init
loop-taken-init g c s d st few = (d, st, refl, few, omega arith)

pub take_event_back-left-requires : goal.take_event_back-left-requires
take_event_back-left-requires g c = omega (arith, c.if-left-eq0.false)

pub loop-taken-preserved : goal.loop-taken-preserved
loop-taken-preserved g c s d st few =
    let (e, there, same, less, count) = c.loop-taken.invariant s d st few in
    let some : 0 < c.loop-taken.left = omega (arith, c.if-left-eq0.false) in
    let (back, on, fewer) = c.take_event_back-left.ensures s e there less in
    let kept = some_kept e (omega (arith, some, less)) in
    (taken_back e, back, same ∙ on, fewer, omega (arith, count, kept))

pub returns-then-left-eq0 : goal.returns-then-left-eq0
returns-then-left-eq0 g c s d st few =
    let (e, there, same, less, count) = c.loop-taken.invariant s d st few in
    let none : c.loop-taken.left ≤ 0 = omega (arith, c.if-left-eq0.true) in
    subst (StandsFor g.M.RecordedMachine.stands c.loop-taken.session s) (sym (same ∙ led_never s (DoReverseStep 1) c.loop-taken.left e none)) there

pub returns : goal.returns
returns g c s d st few =
    let stands = g.M.RecordedMachine.stands in
    let (e, there, same, less, count) = c.loop-taken.invariant s d st few in
    let all : c.kept-taken-end.result ≡ d.kept = c.kept-taken-end.ensures.debugger s (bare d) (subst (λ m. stands m s (bare d)) (sym c.machine.ensures) st.there) in
    let gone : e.kept ≤ 0 = omega (arith, count, all, c.loop-taken-test.false) in
    let none : c.loop-taken.left ≤ 0 = none_left e c.loop-taken.left gone less in
    subst (StandsFor stands c.loop-taken.session s) (sym (same ∙ led_never s (DoReverseStep 1) c.loop-taken.left e none)) there
