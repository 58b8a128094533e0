use Rattle.std.proofs.Common.{◌∙◌, ap, sym}
use Rattle.std.specs.Prelude.{is_none}
use Rattle.gang_model.specs.Debugger.Debugger.{now}
use Rattle.adapter_replies.proofs.EndFrames.{ended_given}
use Rattle.adapter_replies.proofs.ends.has_ended.Goals as goal

pub returns-in-None : goal.returns-in-None
returns-in-None g c s d st = ap is_none (sym c.in-None.is) ∙ ended_given s.program (now s d).frames c.position.result (c.position.ensures.place s d st)

pub returns-in-Some : goal.returns-in-Some
returns-in-Some g c s d st = ap is_none (sym c.in-Some.is) ∙ ended_given s.program (now s d).frames c.position.result (c.position.ensures.place s d st)
