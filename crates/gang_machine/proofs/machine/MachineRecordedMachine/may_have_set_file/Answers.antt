use Rattle.std.proofs.Common.{subst, sym}
use Rattle.gang_machine.specs.Standings.{Stands}
use Rattle.gang_machine.proofs.FileWords.{shows_as_before}
use Rattle.gang_machine.proofs.machine.MachineRecordedMachine.may_have_set_file.Goals as goal

pub returns : goal.returns
returns g c none s d stands =
    let m = c.self.inside in
    shows_as_before g.T.Timeline.history g.row.W m.entry m.compiled m.lines.items m.words c.self.invariant s d (subst (λ m. Stands m s d) (sym c.self.view_is) stands)
    c.end_of_file.result c.end_of_file.ensures (c.may_have_set.ensures none)
