use Rattle.std.proofs.Common.{◌∙◌, sym, subst}
use Rattle.gang_machine.specs.Standings.{Stands}
use Rattle.gang_machine.proofs.LaneNumbers.{forms_there, frame_there, lane_spot_by, lane_spot_is, none_at}
use Rattle.gang_machine.proofs.Seeing.{shown_here}
use Rattle.gang_machine.proofs.lanes.MachineLaneMachine.lane_spot.Goals as goal

pub lane_number-number-requires-clause-there : goal.lane_number-number-requires-clause-there
lane_number-number-requires-clause-there g c =
    let m = c.self.inside in
    let sound = c.self.invariant in
    let next = c.in_ok-active.ensures.step in
    frame_there g.T.Timeline.history g.row.W m.compiled m.words sound.masked sound.shown c.args.depth c.args.lane c.in_ok-active.active next.0 next.1

pub lane_number-number-requires-clause-forms : goal.lane_number-number-requires-clause-forms
lane_number-number-requires-clause-forms g c =
    let m = c.self.inside in
    let sound = c.self.invariant in
    let next = c.in_ok-active.ensures.step in
    forms_there g.T.Timeline.history g.row.W m.compiled m.words sound.masked sound.shown c.args.depth c.args.lane c.in_ok-active.active next.0 next.1

pub returns-in_err-active : goal.returns-in_err-active
returns-in_err-active g c s d stands =
    let m = c.self.inside in
    let history = g.T.Timeline.history in
    let lowerable = c.self.invariant.lie.compiled_is.runnable.lowerable in
    let here = subst (λ m. Stands m s d) (sym c.self.view_is) stands in
    let shown = shown_here history g.row.W m.entry m.compiled m.lines.items m.words c.self.invariant s d here in
    c.from_residual.ensures
    ∙ sym (lane_spot_is g.row.W m.entry m.compiled.program m.lines.items m.words.layout (history m.words.store.timeline) lowerable s d here c.args.depth c.args.lane
    ∙ none_at history g.row.W m.compiled m.words _ shown c.args.depth c.args.lane c.in_err-active.ensures.step)

pub returns : goal.returns
returns g c s d stands =
    let m = c.self.inside in
    let history = g.T.Timeline.history in
    let lowerable = c.self.invariant.lie.compiled_is.runnable.lowerable in
    let here = subst (λ m. Stands m s d) (sym c.self.view_is) stands in
    let shown = shown_here history g.row.W m.entry m.compiled m.lines.items m.words c.self.invariant s d here in
    let next = c.in_ok-active.ensures.step in
    sym (lane_spot_is g.row.W m.entry m.compiled.program m.lines.items m.words.layout (history m.words.store.timeline) lowerable s d here c.args.depth c.args.lane
    ∙ lane_spot_by history g.row.W m.compiled m.words _ shown c.args.depth c.args.lane c.in_ok-active.active next.0 next.1 c.lane_number-number.result c.lane_number-number.ensures)
