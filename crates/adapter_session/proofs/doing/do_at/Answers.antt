use Rattle.std.proofs.Common.{subst, sym}
use Rattle.debug_session.specs.Sessions.{RepliesTo}
use Rattle.adapter_session.proofs.DoneLines.{same_there}
use Rattle.adapter_session.proofs.doing.do_at.Goals as goal

pub returns-in_default : goal.returns-in_default
returns-in_default g c s d there =
    subst (λ command. RepliesTo g.M.RecordedMachine.may_want g.M.RecordedMachine.stands s command d c.do_command.result c.do_command.new.self)
    (sym (same_there c.args.depth c.args.command c.in_default.not-Set)) (c.do_command.ensures.replied s d there)
