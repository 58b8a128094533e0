use Rattle.std.proofs.Common.{◌≡◌, ◌∙◌, sym, ap, ap₂, subst, ℕ, suc, List, length}
use Rattle.std.specs.Prelude.{min, slice_index}
use Rattle.std.proofs.lemmas.Option.{none-some}
use Rattle.gang_types.specs.Lanes.{and}
use Rattle.gang_types.specs.Masks.{lanes_of}
use Rattle.gang_types.specs.MaskLaws.{length-lanes_of_word}
use Rattle.gang_model.specs.Debugger.Debugger.{now}
use Rattle.machine_words.specs.Words.{regions_in}
use Rattle.codegen.specs.Programs.{variables_of}
use Rattle.frame_expressions.specs.Lanes.{chosen_lanes, made_lanes}
use Rattle.gang_machine.specs.Standings.{Stands}
use Rattle.gang_machine.proofs.Agreeing.{masked_now}
use Rattle.gang_machine.proofs.Evaluating.{is_value}
use Rattle.gang_machine.proofs.FrameLanes.{lanes_made}
use Rattle.gang_machine.proofs.FrameViews.{spot_at_is}
use Rattle.gang_machine.proofs.Seeing.{shown_here}
use Rattle.gang_machine.proofs.expressions.MachineExpressionMachine.evaluate_for.Goals as goal

pub returns-in-None : goal.returns-in-None
returns-in-None g c s d spot written type rate stands at means =
    let m = c.self.inside in
    let history = g.T.Timeline.history in
    let lowerable = c.self.invariant.lie.compiled_is.runnable.lowerable in
    let here = subst (λ m. Stands m s d) (sym c.self.view_is) stands in
    let shown = shown_here history g.row.W m.entry m.compiled m.lines.items m.words c.self.invariant s d here in
    absurd (none-some spot
    (sym (spot_at_is g.row.W m.entry m.compiled.program m.lines.items m.words.layout (history m.words.store.timeline) lowerable s d here c.args.depth
    ∙ c.in-None.ensures.place _ shown) ∙ at))

pub returns-in-Some : goal.returns-in-Some
returns-in-Some g c s d spot written type rate stands at means =
    let m = c.self.inside in
    let history = g.T.Timeline.history in
    let w = g.row.W in
    let lowerable = c.self.invariant.lie.compiled_is.runnable.lowerable in
    let here = subst (λ m. Stands m s d) (sym c.self.view_is) stands in
    let shown = shown_here history w m.entry m.compiled m.lines.items m.words c.self.invariant s d here in
    let next = c.in-Some.ensures.step in
    let frames = (masked_now w m.entry m.compiled.program m.lines.items m.words.layout (history m.words.store.timeline) lowerable s d here).state.frames in
    let height : min c.args.depth (length frames) ≡ suc c.in-Some.active.frame =
    ap (λ (ws : List ℕ). min c.args.depth (slice_index ws 0)) (sym shown.shows.depth) ∙ ap (λ (ws : List ℕ). slice_index ws 0) next.1.next.depth in
    let same : lanes_of w c.made_for-made.result ≡ made_lanes c.args.depth (now s d) =
    c.made_for-made.ensures
    ∙ sym (lanes_made w m.entry m.compiled.program m.lines.items m.words.layout (history m.words.store.timeline) lowerable s d here c.args.depth c.in-Some.active.frame height
    (variables_of m.compiled.program) (regions_in history w m.words) shown.shows) in
    let wide : w ≡ length (made_lanes c.args.depth (now s d)) = sym (length-lanes_of_word w c.made_for-made.result.word) ∙ ap length same in
    is_value history w m.entry m.compiled c.self.invariant.lie.compiled_is.runnable m.lines.items m.words s d here c.args.depth c.in-Some.active next.0 next.1
    (c.in-Some.ensures.place _ shown) spot at written type rate c.args.code.now means c.and.result c.value_in.result c.value_in.ensures
    (chosen_lanes c.args.lanes c.args.depth (now s d)) (c.and.ensures w ∙ ap₂ and same (ap (λ n. lanes_of n c.args.lanes) wide))
