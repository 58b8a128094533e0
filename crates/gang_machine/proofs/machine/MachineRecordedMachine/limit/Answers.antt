use Rattle.std.proofs.Common.{◌≡◌, subst}
use Rattle.gang_machine.specs.Standings.{history_of}
use Rattle.gang_machine.proofs.machine.MachineRecordedMachine.limit.Goals as goal

pub returns-clause-all : goal.returns-clause-all
returns-clause-all g c = subst (λ m. c.limit.result ≡ (history_of m).limit) c.self.view_is c.limit.ensures.limit
