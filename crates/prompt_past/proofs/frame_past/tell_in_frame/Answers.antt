use Rattle.std.proofs.Common.{◌≡◌, ◌-◌, true, false, [], sym, subst, ap, ◌∙◌}
use Rattle.std.specs.Prelude.{if◌then◌else◌}
use Rattle.gang_model.specs.Debugger.Debugger.{kept_steps}
use Rattle.debug_session.specs.Sessions.{StandsFor, bare}
use Rattle.prompt_moves.specs.Moments.{is_unset, led, steps_on}
use Rattle.prompt_past.specs.FramePast.{changes_back, told_in_frame}
use Rattle.prompt_past.proofs.FrameWays.{led_told}
use Rattle.prompt_past.proofs.frame_past.tell_in_frame.Goals as goal

pub returns-then-not-is_unset : goal.returns-then-not-is_unset
returns-then-not-is_unset g c s d st =
    let no : is_unset d ≡ false = sym (c.is_unset.ensures s d st) ∙ c.if-not-is_unset.true in
    subst (λ b. StandsFor g.M.RecordedMachine.stands c.args.session.now s (led s (if b then told_in_frame c.args.most s c.args.watch.now d else []) d)) (sym no) st

pub returns : goal.returns
returns g c s d st =
    let stands = g.M.RecordedMachine.stands in
    let w = c.args.watch.now in
    let most = c.args.most in
    let e = led s (changes_back most s w d) d in
    let new = c.step_on.new.session in
    let there = c.tell_back.ensures s d st in
    let yes : is_unset d ≡ true = sym (c.is_unset.ensures s d st) ∙ c.if-not-is_unset.false in
    let before : c.kept_steps-steps.result ≡ kept_steps d = c.kept_steps-steps.ensures.debugger s (bare d) (subst (λ x. stands x s (bare d)) (sym c.machine.ensures) st.there) in
    let here : c.kept_steps-here.result ≡ kept_steps e = c.kept_steps-here.ensures.debugger s (bare e) (subst (λ x. stands x s (bare e)) (sym c.machine-2.ensures) there.there) in
    let count : c.saturating_sub.result ≡ kept_steps d - kept_steps e = c.saturating_sub.ensures ∙ ap (λ k. k - c.kept_steps-here.result) before ∙ ap (λ k. kept_steps d - k) here in
    subst (λ b. StandsFor stands new s (led s (if b then told_in_frame most s w d else []) d)) (sym yes)
    (subst (StandsFor stands new s) (sym (led_told s w most d)) (subst (λ k. StandsFor stands new s (led s (steps_on k s e) e)) count (c.step_on.ensures s e there)))
