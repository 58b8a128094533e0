use Rattle.std.proofs.Common.{sym, ap, ◌∙◌}
use Rattle.std.specs.Prelude.{is_none}
use Rattle.gang_model.specs.Debugger.Debugger.{now}
use Rattle.debug_session.specs.Sessions.{bare}
use Rattle.debug_session.proofs.Ending.{ended_by, line_by}
use Rattle.debug_session.proofs.places.reached_by.Goals as goal

pub returns : goal.returns
returns g c s d st =
    let place = c.position-position.ensures.place s (bare d) st in
    let line = c.line_of.ensures in
    record {
      line = c.position-position.ensures.line s (bare d) st ∙ sym line;
      depth = c.position-position.ensures.depth s (bare d) st ∙ sym c.depth_of.ensures;
      ended = sym (ap is_none line ∙ line_by c.position-position.result ∙ ended_by s.program (now s d).frames c.position-position.result place);
    }
