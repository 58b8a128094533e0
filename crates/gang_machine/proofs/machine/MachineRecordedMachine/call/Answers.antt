use Rattle.std.proofs.Common.{sym, subst, ◌∙◌}
use Rattle.gang_machine.specs.Standings.{Stands}
use Rattle.gang_machine.proofs.Placing.{calls_are}
use Rattle.gang_machine.proofs.Seeing.{shown_here}
use Rattle.gang_machine.proofs.machine.MachineRecordedMachine.call.Goals as goal

pub returns-clause-place : goal.returns-clause-place
returns-clause-place g c s d stands =
    let m = c.self.inside in
    let history = g.T.Timeline.history in
    let lowerable = c.self.invariant.lie.compiled_is.runnable.lowerable in
    let here = subst (λ m. Stands m s d) (sym c.self.view_is) stands in
    let shown = shown_here history g.row.W m.entry m.compiled m.lines.items m.words c.self.invariant s d here in
    calls_are g.row.W m.entry m.compiled.program m.lines.items m.words.layout (history m.words.store.timeline) lowerable s d here c.args.depth
    ∙ c.call.ensures.place _ shown
