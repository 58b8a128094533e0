use Rattle.std.proofs.Common.{◌∙◌, sym, subst}
use Rattle.gang_machine.specs.Standings.{Stands}
use Rattle.gang_machine.proofs.FrameViews.{spot_at_is}
use Rattle.gang_machine.proofs.Seeing.{shown_here}
use Rattle.gang_machine.proofs.expressions.MachineExpressionMachine.spot.Goals as goal

pub returns-in_err-active : goal.returns-in_err-active
returns-in_err-active g c s d stands =
    let m = c.self.inside in
    let history = g.T.Timeline.history in
    let lowerable = c.self.invariant.lie.compiled_is.runnable.lowerable in
    let here = subst (λ m. Stands m s d) (sym c.self.view_is) stands in
    let shown = shown_here history g.row.W m.entry m.compiled m.lines.items m.words c.self.invariant s d here in
    c.from_residual.ensures
    ∙ sym (spot_at_is g.row.W m.entry m.compiled.program m.lines.items m.words.layout (history m.words.store.timeline) lowerable s d here c.args.depth
    ∙ c.in_err-active.ensures.place _ shown)

pub returns : goal.returns
returns g c s d stands =
    let m = c.self.inside in
    let history = g.T.Timeline.history in
    let lowerable = c.self.invariant.lie.compiled_is.runnable.lowerable in
    let here = subst (λ m. Stands m s d) (sym c.self.view_is) stands in
    let shown = shown_here history g.row.W m.entry m.compiled m.lines.items m.words c.self.invariant s d here in
    sym (spot_at_is g.row.W m.entry m.compiled.program m.lines.items m.words.layout (history m.words.store.timeline) lowerable s d here c.args.depth
    ∙ c.in_ok-active.ensures.place _ shown)
