use Rattle.std.proofs.Common.{sym, subst}
use Rattle.debug_session.specs.Sessions.{StandsFor}
use Rattle.prompt_moves.specs.Moments.{led}
use Rattle.prompt_past.specs.FramePast.{back_to_change}
use Rattle.prompt_past.proofs.FrameWays.{led_in_frame}
use Rattle.prompt_past.proofs.frame_past.go_and_tell.Goals as goal

pub returns : goal.returns
returns g c s d st =
    let w = c.args.watch.now in
    subst (StandsFor g.M.RecordedMachine.stands c.into_frame.new.session s) (sym (led_in_frame s w d))
    (c.into_frame.ensures s (led s (back_to_change s w d) d) (c.back_to_change-shown.ensures s d st).0)
