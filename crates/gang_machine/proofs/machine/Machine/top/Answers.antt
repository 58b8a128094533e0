use Rattle.std.proofs.Common.{◌∙◌, sym, subst}
use Rattle.gang_machine.specs.Standings.{Stands}
use Rattle.gang_machine.proofs.Agreeing.{frames_alike}
use Rattle.gang_machine.proofs.Seeing.{shown_here}
use Rattle.gang_machine.proofs.machine.Machine.top.Goals as goal

pub returns : goal.returns
returns g c s d stands =
    let m = c.self.inside in
    let history = g.T.Timeline.history in
    let here = subst (λ m. Stands m s d) (sym c.self.view_is) stands in
    let shown = shown_here history g.row.W m.entry m.compiled m.lines.items m.words c.self.invariant s d here in
    frames_alike g.row.W m.entry m.compiled.program m.lines.items m.words.layout (history m.words.store.timeline) c.self.invariant.lie.compiled_is.runnable.lowerable s d here
    ∙ sym (c.frame_count.ensures _ shown)
