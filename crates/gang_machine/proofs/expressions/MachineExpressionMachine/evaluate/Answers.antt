use Rattle.std.proofs.Common.{sym, subst}
use Rattle.std.proofs.lemmas.Option.{none-some}
use Rattle.std.proofs.Common.{◌∙◌}
use Rattle.gang_model.specs.Debugger.Debugger.{now}
use Rattle.frame_expressions.specs.Lanes.{lanes_at}
use Rattle.gang_machine.specs.Standings.{Stands}
use Rattle.gang_machine.proofs.Evaluating.{is_value}
use Rattle.gang_machine.proofs.FrameViews.{spot_at_is}
use Rattle.gang_machine.proofs.Seeing.{shown_here}
use Rattle.gang_machine.proofs.expressions.MachineExpressionMachine.evaluate.Goals as goal

pub returns-in-None : goal.returns-in-None
returns-in-None g c s d spot written type rate stands at means =
    let m = c.self.inside in
    let history = g.T.Timeline.history in
    let lowerable = c.self.invariant.lie.compiled_is.runnable.lowerable in
    let here = subst (λ m. Stands m s d) (sym c.self.view_is) stands in
    let shown = shown_here history g.row.W m.entry m.compiled m.lines.items m.words c.self.invariant s d here in
    absurd (none-some spot
    (sym (spot_at_is g.row.W m.entry m.compiled.program m.lines.items m.words.layout (history m.words.store.timeline) lowerable s d here c.args.depth
    ∙ c.in-None.ensures.place _ shown) ∙ at))

pub returns-in-Some : goal.returns-in-Some
returns-in-Some g c s d spot written type rate stands at means =
    let m = c.self.inside in
    let history = g.T.Timeline.history in
    let here = subst (λ m. Stands m s d) (sym c.self.view_is) stands in
    let shown = shown_here history g.row.W m.entry m.compiled m.lines.items m.words c.self.invariant s d here in
    let next = c.in-Some.ensures.step in
    is_value history g.row.W m.entry m.compiled c.self.invariant.lie.compiled_is.runnable m.lines.items m.words s d here c.args.depth c.in-Some.active next.0 next.1
    (c.in-Some.ensures.place _ shown) spot at written type rate c.args.code.now means c.lanes_shown.result c.value_in.result c.value_in.ensures
    (lanes_at c.args.depth (now s d)) (c.lanes_shown.ensures s d spot stands at)
