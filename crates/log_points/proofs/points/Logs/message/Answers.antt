use Rattle.std.proofs.Common.{ap, ◌∙◌, None, Some}
use Rattle.log_points.proofs.Putting.{message_found}
use Rattle.log_points.proofs.points.Logs.message.Goals as goal

pub returns-in-Some : goal.returns-in-Some
returns-in-Some c = ap Some c.as_str.ensures.value ∙ message_found c.args.number c.args.self.now.points.items _ c.in-Some.ensures

pub returns-in-None : goal.returns-in-None
returns-in-None c = message_found c.args.number c.args.self.now.points.items None c.in-None.ensures
