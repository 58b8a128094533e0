use Rattle.std.proofs.Common.{◌≡◌, ◌≤◌, ◌-◌, true, replicate, sym, subst, ap, ◌∙◌, arith}
use Rattle.std.specs.Prelude.{nat_le, if◌then◌else◌}
use Rattle.std.proofs.lemmas.Bool.Decides.{nat_tests}
use Rattle.gang_model.specs.Debugger.Debugger.{DoReverseStep, kept_steps}
use Rattle.debug_session.specs.Sessions.{StandsFor, bare}
use Rattle.prompt_moves.specs.Moments.{led, steps_on, to_moment}
use Rattle.prompt_moves.proofs.moments.move_to.Goals as goal

pub returns-then-step-here : goal.returns-then-step-here
returns-then-step-here g c s d st =
    let stands = g.M.RecordedMachine.stands in
    let n = c.args.step in
    let here : c.kept_steps-here.result ≡ kept_steps d = c.kept_steps-here.ensures.debugger s (bare d) (subst (λ m. stands m s (bare d)) (sym c.machine.ensures) st.there) in
    let few : nat_le n (kept_steps d) ≡ true = grind (arith, nat_tests) in
    let back : to_moment n s d ≡ replicate (kept_steps d - n) (DoReverseStep 1) = ap (λ b. if b then replicate (kept_steps d - n) (DoReverseStep 1) else steps_on (n - kept_steps d) s d) few in
    let less : c.kept_steps-here.result - n ≤ kept_steps d = omega (arith, here) in
    subst (StandsFor stands c.take_steps_back.new.session s) (ap (λ k. led s (replicate (k - n) (DoReverseStep 1)) d) here ∙ sym (ap (λ cs. led s cs d) back)) (c.take_steps_back.ensures s d st less)
