use Rattle.std.proofs.Common.{sym, subst}
use Rattle.gang_machine.specs.Standings.{Stands}
use Rattle.gang_machine.proofs.Positions.{depth_is, line_is, text_is}
use Rattle.gang_machine.proofs.Seeing.{shown_here}
use Rattle.gang_machine.proofs.machine.MachineRecordedMachine.position.Goals as goal

pub returns-clause-place : goal.returns-clause-place
returns-clause-place g c s d stands =
    let m = c.self.inside in
    let history = g.T.Timeline.history in
    let lowerable = c.self.invariant.lie.compiled_is.runnable.lowerable in
    let here = subst (λ m. Stands m s d) (sym c.self.view_is) stands in
    let shown = shown_here history g.row.W m.entry m.compiled m.lines.items m.words c.self.invariant s d here in
    text_is g.row.W m.entry m.compiled m.lines.items m.words.layout (history m.words.store.timeline) lowerable s d here c.position.result (c.position.ensures.place _ shown)

pub returns-clause-line : goal.returns-clause-line
returns-clause-line g c s d stands =
    let m = c.self.inside in
    let history = g.T.Timeline.history in
    let lowerable = c.self.invariant.lie.compiled_is.runnable.lowerable in
    let here = subst (λ m. Stands m s d) (sym c.self.view_is) stands in
    let shown = shown_here history g.row.W m.entry m.compiled m.lines.items m.words c.self.invariant s d here in
    line_is g.row.W m.entry m.compiled m.lines.items m.words.layout (history m.words.store.timeline) lowerable s d here c.position.result (c.position.ensures.place _ shown)

pub returns-clause-depth : goal.returns-clause-depth
returns-clause-depth g c s d stands =
    let m = c.self.inside in
    let history = g.T.Timeline.history in
    let lowerable = c.self.invariant.lie.compiled_is.runnable.lowerable in
    let here = subst (λ m. Stands m s d) (sym c.self.view_is) stands in
    let shown = shown_here history g.row.W m.entry m.compiled m.lines.items m.words c.self.invariant s d here in
    depth_is g.row.W m.entry m.compiled m.lines.items m.words.layout (history m.words.store.timeline) lowerable s d here c.position.result (c.position.ensures.place _ shown)
