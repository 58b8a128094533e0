use Rattle.std.proofs.Common.{◌≡◌, ◌∙◌, subst, sym}
use Rattle.undo_log.specs.History.{steps_in}
use Rattle.gang_machine.specs.Standings.{Stands, history_of}
use Rattle.gang_machine.proofs.Keeping.{steps_kept}
use Rattle.gang_machine.proofs.machine.MachineRecordedMachine.kept_steps.Goals as goal

pub returns-clause-debugger : goal.returns-clause-debugger
returns-clause-debugger g c s d stands =
    let m = c.self.inside in
    c.kept_steps.ensures
    ∙ steps_kept g.row.W m.entry m.compiled.program m.words.layout m.lines.items (g.T.Timeline.history m.words.store.timeline) s d (subst (λ m. Stands m s d) (sym c.self.view_is) stands)

pub returns-clause-all : goal.returns-clause-all
returns-clause-all g c = subst (λ m. c.kept_steps.result ≡ steps_in (history_of m).past) c.self.view_is c.kept_steps.ensures
