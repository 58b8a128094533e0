use Rattle.std.proofs.Common.{subst}
use Rattle.debug_answers.specs.declared.answer.Answer.TheVariants as answer
use Rattle.lane_picture.specs.Tries.{Tries}
use Rattle.lane_picture.proofs.Trying.{came_other, tries}
use Rattle.lane_picture.proofs.columns.try_step.Goals as goal

pub returns-in-Here : goal.returns-in-Here
returns-in-Here g c s d st = tries g.M.RecordedMachine.may_want g.M.RecordedMachine.stands s d answer.Here c.do_command.new.self (c.in-Here.ensures.replied s d st)

pub returns-in-AtFault : goal.returns-in-AtFault
returns-in-AtFault g c s d st = tries g.M.RecordedMachine.may_want g.M.RecordedMachine.stands s d (answer.AtFault c.in-AtFault.fault) c.do_command.new.self (c.in-AtFault.ensures.replied s d st)

pub returns-in_default : goal.returns-in_default
returns-in_default g c s d st =
    subst (λ came. Tries g.M.RecordedMachine.stands s d came c.do_command.new.self) (came_other c.do_command.result c.in_default.not-Here c.in_default.not-AtFault)
    (tries g.M.RecordedMachine.may_want g.M.RecordedMachine.stands s d c.do_command.result c.do_command.new.self (c.do_command.ensures.replied s d st))
