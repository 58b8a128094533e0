use Rattle.std.proofs.Common.{◌∙◌, sym, subst, arith}
use Rattle.gang_machine.specs.Standings.{Stands}
use Rattle.gang_machine.proofs.Agreeing.{frames_alike}
use Rattle.gang_machine.proofs.FrameLanes.{lanes_called, lanes_top, not_ended}
use Rattle.gang_machine.proofs.Seeing.{shown_here}
use Rattle.frame_steps.specs.Compiled.{variables_of}
use Rattle.machine_words.specs.Words.{regions_in}
use Rattle.gang_machine.proofs.machine.Machine.lanes_shown.Goals as goal

pub returns-then-depth-frame_count : goal.returns-then-depth-frame_count
returns-then-depth-frame_count g c s d spot stands at =
    let m = c.self.inside in
    let history = g.T.Timeline.history in
    let lowerable = c.self.invariant.lie.compiled_is.runnable.lowerable in
    let here = subst (λ m. Stands m s d) (sym c.self.view_is) stands in
    let shown = shown_here history g.row.W m.entry m.compiled m.lines.items m.words c.self.invariant s d here in
    let count = c.frame_count.ensures _ shown in
    let same = frames_alike g.row.W m.entry m.compiled.program m.lines.items m.words.layout (history m.words.store.timeline) lowerable s d here in
    c.made_for.ensures
    ∙ sym (lanes_called g.row.W m.entry m.compiled.program m.lines.items m.words.layout (history m.words.store.timeline) lowerable s d here c.args.depth
    (omega (arith, same, count)) (variables_of m.compiled) (regions_in history g.row.W m.words) shown.shows (omega (arith, count)))

pub returns-in-Some : goal.returns-in-Some
returns-in-Some g c s d spot stands at =
    let m = c.self.inside in
    let history = g.T.Timeline.history in
    let lowerable = c.self.invariant.lie.compiled_is.runnable.lowerable in
    let here = subst (λ m. Stands m s d) (sym c.self.view_is) stands in
    let shown = shown_here history g.row.W m.entry m.compiled m.lines.items m.words c.self.invariant s d here in
    let count = c.frame_count.ensures _ shown in
    let same = frames_alike g.row.W m.entry m.compiled.program m.lines.items m.words.layout (history m.words.store.timeline) lowerable s d here in
    (c.in-Some.ensures.place _ shown).10
    ∙ sym (lanes_top g.row.W m.entry m.compiled.program m.lines.items m.words.layout (history m.words.store.timeline) lowerable s d here c.args.depth (omega (arith, same, count)))

pub returns-in-None : goal.returns-in-None
returns-in-None g c s d spot stands at =
    let m = c.self.inside in
    let history = g.T.Timeline.history in
    let lowerable = c.self.invariant.lie.compiled_is.runnable.lowerable in
    let here = subst (λ m. Stands m s d) (sym c.self.view_is) stands in
    let shown = shown_here history g.row.W m.entry m.compiled m.lines.items m.words c.self.invariant s d here in
    let count = c.frame_count.ensures _ shown in
    let same = frames_alike g.row.W m.entry m.compiled.program m.lines.items m.words.layout (history m.words.store.timeline) lowerable s d here in
    absurd (not_ended g.row.W m.entry m.compiled.program m.lines.items m.words.layout (history m.words.store.timeline) lowerable s d here c.args.depth (omega (arith, same, count)) spot at
    (c.in-None.ensures.place _ shown))
