use Rattle.std.proofs.Common.{◌≡◌, ◌∷◌, [], true, false, refl, sym, subst, ◌∙◌}
use Rattle.std.specs.Prelude.{if◌then◌else◌}
use Rattle.gang_model.specs.Debugger.Debugger.{DoStep, depth, now}
use Rattle.debug_session.specs.Sessions.{StandsFor}
use Rattle.conditional_stops.specs.Sights.{is_gone}
use Rattle.prompt_moves.specs.Moments.{led}
use Rattle.prompt_moves.proofs.MomentLaws.{moved_there}
use Rattle.prompt_past.proofs.frame_past.into_frame.Goals as goal

pub returns-then-is_left : goal.returns-then-is_left
returns-then-is_left g c s d st =
    let gone : is_gone (depth (now s d)) c.args.watch.now ≡ true = sym (c.is_left.ensures s d st) ∙ c.if-is_left.true in
    subst (λ b. StandsFor g.M.RecordedMachine.stands c.do_command.new.self s (led s (if b then DoStep 1 ∷ [] else []) d)) (sym gone)
    (moved_there g.M.RecordedMachine.stands s g.M.RecordedMachine.may_want (DoStep 1) d c.do_command.result c.do_command.new.self refl (c.do_command.ensures.replied s d st))

pub returns-else-is_left : goal.returns-else-is_left
returns-else-is_left g c s d st =
    let there : is_gone (depth (now s d)) c.args.watch.now ≡ false = sym (c.is_left.ensures s d st) ∙ c.if-is_left.false in
    subst (λ b. StandsFor g.M.RecordedMachine.stands c.args.session.now s (led s (if b then DoStep 1 ∷ [] else []) d)) (sym there) st
