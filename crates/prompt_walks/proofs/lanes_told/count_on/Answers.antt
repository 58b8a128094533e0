use Rattle.std.proofs.Common.{◌≡◌, ◌<◌, ◌≤◌, ◌-◌, ◌*◌, ◌+◌, suc, [], true, false, refl, sym, subst, ap, ◌∙◌, arith}
use Rattle.std.specs.Prelude.{◌^◌}
use Rattle.gang_model.specs.Debugger.Debugger.{DoStep, do_command, now}
use Rattle.debug_session.specs.Sessions.{StandsFor, bare}
use Rattle.lane_profile.specs.Stands.{stands_of}
use Rattle.prompt_scenes.specs.Readings.{is_here}
use Rattle.prompt_moves.proofs.MomentLaws.{led_last_step, led_no_step, led_step}
use Rattle.prompt_walks.specs.LanesTold.{IsFewSoFar, with_later}
use Rattle.prompt_walks.proofs.LanesSoFar.{fewer, made_stands, to_nothing, unmade_stands}
use Rattle.prompt_walks.proofs.lanes_told.count_on.Goals as goal

pub loop-left-init : goal.loop-left-init
loop-left-init g c = (
  λ s d st. (d, st, refl, λ limit small. c.none-so_far.ensures.begun c.args.chosen s.program (stands_of s.program c.args.most (now s d))),
  λ small. fewer 0 (16 * (c.args.most - c.args.most)) c.none-so_far.result (omega arith) c.none-so_far.ensures.few,
  omega arith,
)

pub loop-left-preserved : goal.loop-left-preserved
loop-left-preserved g c =
    let (there, few, less) = c.loop-left.invariant in
    let left = c.loop-left.left in
    let most = c.args.most in
    let some : 0 < left = omega (arith, c.loop-left-test.true) in (
      λ s d st.
          let (e, at, same, counts) = there s d st in
          let made : is_here (do_command s (DoStep 1) e).answer ≡ true = sym (c.make_step.ensures.made s e at) ∙ c.if-not-make_step.false in
          let next = (do_command s (DoStep 1) e).next in (
            next,
            c.make_step.ensures.there s e at,
            same ∙ led_step s left e some made,
            λ limit small.
                let more : left ≡ suc (left - 1) = omega (arith, some) in
                let is_few : IsFewSoFar (2 ^ 40) c.loop-left.so_far = fewer (16 * (most - left)) (2 ^ 40) c.loop-left.so_far (omega (arith, small)) (few small) in
                let machine = subst (λ m. g.M.RecordedMachine.stands m s (bare e)) (sym c.machine.ensures) at.there in
                sym (c.note-so_far.ensures.counted is_few s (bare e) machine (stands_of s.program (left - 1) (now s next)))
                ∙ ap (with_later s.program c.args.chosen c.loop-left.so_far) (sym (ap (λ n. stands_of s.program n (now s e)) more ∙ made_stands s e limit (left - 1) made))
                ∙ counts limit small,
          ),
      λ small.
          let is_few : 16 * (most - left) ≤ 2 ^ 40 = omega (arith, small) in
          fewer (16 * (most - left) + 16) (16 * (most - (left - 1))) c.note-so_far.result (omega (arith, some, less)) (c.note-so_far.ensures.few (16 * (most - left)) (few small) is_few),
      omega (arith, less),
    )

pub returns-then-not-make_step-clause-stands : goal.returns-then-not-make_step-clause-stands
returns-then-not-make_step-clause-stands g c s d st =
    let (e, at, same, counts) = c.loop-left.invariant.0 s d st in
    let some : 0 < c.loop-left.left = omega (arith, c.loop-left-test.true) in
    let made : is_here (do_command s (DoStep 1) e).answer ≡ false = sym (c.make_step.ensures.made s e at) ∙ c.if-not-make_step.true in
    subst (StandsFor g.M.RecordedMachine.stands c.make_step.new.session s) (sym (same ∙ led_last_step s c.loop-left.left e some made)) (c.make_step.ensures.there s e at)

pub returns-then-not-make_step-clause-counted : goal.returns-then-not-make_step-clause-counted
returns-then-not-make_step-clause-counted g c s d st limit small =
    let (e, at, same, counts) = c.loop-left.invariant.0 s d st in
    let left = c.loop-left.left in
    let some : 0 < left = omega (arith, c.loop-left-test.true) in
    let more : left ≡ suc (left - 1) = omega (arith, some) in
    let made : is_here (do_command s (DoStep 1) e).answer ≡ false = sym (c.make_step.ensures.made s e at) ∙ c.if-not-make_step.true in
    let is_few : IsFewSoFar (2 ^ 40) c.loop-left.so_far = fewer (16 * (c.args.most - left)) (2 ^ 40) c.loop-left.so_far (omega (arith, small)) (c.loop-left.invariant.1 small) in
    let machine = subst (λ m. g.M.RecordedMachine.stands m s (bare e)) (sym c.machine.ensures) at.there in
    sym (to_nothing s.program c.args.chosen c.note-so_far.result) ∙ sym (c.note-so_far.ensures.counted is_few s (bare e) machine [])
    ∙ ap (with_later s.program c.args.chosen c.loop-left.so_far) (sym (ap (λ n. stands_of s.program n (now s e)) more ∙ unmade_stands s e limit (left - 1) made)) ∙ counts limit small

pub returns-then-not-make_step-clause-few : goal.returns-then-not-make_step-clause-few
returns-then-not-make_step-clause-few g c small =
    let n = 16 * (c.args.most - c.loop-left.left) in
    let is_few : n ≤ 2 ^ 40 = omega (arith, small) in
    let some : 0 < c.loop-left.left = omega (arith, c.loop-left-test.true) in
    fewer (n + 16) (2 ^ 40) c.note-so_far.result (omega (arith, small, some, c.loop-left.invariant.2)) (c.note-so_far.ensures.few n (c.loop-left.invariant.1 small) is_few)

pub returns-clause-stands : goal.returns-clause-stands
returns-clause-stands g c s d st =
    let (e, at, same, counts) = c.loop-left.invariant.0 s d st in
    let none : c.loop-left.left ≤ 0 = omega (arith, c.loop-left-test.false) in
    subst (StandsFor g.M.RecordedMachine.stands c.loop-left.session s) (sym (same ∙ led_no_step s c.loop-left.left e none)) at

pub returns-clause-counted : goal.returns-clause-counted
returns-clause-counted g c s d st limit small =
    let (e, at, same, counts) = c.loop-left.invariant.0 s d st in
    let none : c.loop-left.left ≡ 0 = omega (arith, c.loop-left-test.false) in
    sym (to_nothing s.program c.args.chosen c.loop-left.so_far) ∙ ap (λ n. with_later s.program c.args.chosen c.loop-left.so_far (stands_of s.program n (now s e))) (sym none) ∙ counts limit small

pub returns-clause-few : goal.returns-clause-few
returns-clause-few g c small = fewer (16 * (c.args.most - c.loop-left.left)) (2 ^ 40) c.loop-left.so_far (omega (arith, small)) (c.loop-left.invariant.1 small)
