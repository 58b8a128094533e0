use Rattle.std.proofs.Common.{◌≡◌, length, subst}
use Rattle.gang_machine.specs.Standings.{history_of}
use Rattle.gang_machine.proofs.machine.MachineRecordedMachine.kept.Goals as goal

pub returns-clause-all : goal.returns-clause-all
returns-clause-all g c = subst (λ m. c.kept.result ≡ length (history_of m).past) c.self.view_is c.kept.ensures
