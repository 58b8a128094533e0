use Rattle.std.proofs.Common.{sym, subst, None, arith}
use Rattle.machine_words.specs.Words.{regions_in}
use Rattle.frame_steps.specs.Standing.{IsNextOf}
use Rattle.machine_shown.specs.Frames.{IsPlaceOf, regions_up_to}
use Rattle.machine_shown.proofs.FramePlaces.{is_place}
use Rattle.machine_shown.proofs.FrameSteps.{function_long, is_next, none_up_to, runs, stands}
use Rattle.machine_shown.proofs.frames.step_at.Goals as goal

pub word-function-requires-clause-within : goal.word-function-requires-clause-within
word-function-requires-clause-within g c =
    let read = c.in_ok-frame.ensures in
    let long = function_long g.T.Timeline.history g.row.W c.args.compiled.now c.args.words.now c.requires.sound c.args.depth c.word-frames.result c.min.result c.word-frames.ensures c.min.ensures c.in_ok-frame.frame read.0 read.1 in
    omega (arith, long)

pub frame_step-level-requires-clause-runs : goal.frame_step-level-requires-clause-runs
frame_step-level-requires-clause-runs g c =
    let read = c.in_ok-frame.ensures in
    runs g.T.Timeline.history g.row.W c.args.compiled.now c.args.words.now c.requires.sound c.args.depth c.word-frames.result c.min.result c.word-frames.ensures c.min.ensures c.in_ok-frame.frame read.0 read.1
    c.word-function.result c.word-function.ensures

pub returns-in_err-frame-clause-step : goal.returns-in_err-frame-clause-step
returns-in_err-frame-clause-step g c =
    subst (λ place. IsNextOf g.row.W c.args.compiled.now (regions_up_to c.args.depth (regions_in g.T.Timeline.history g.row.W c.args.words.now)) place) (sym c.from_residual.ensures)
    (none_up_to g.T.Timeline.history g.row.W c.args.compiled.now c.args.words.now c.requires.sound c.args.depth c.word-frames.result c.min.result c.word-frames.ensures c.min.ensures c.in_err-frame.ensures)

pub returns-in_err-frame-clause-place : goal.returns-in_err-frame-clause-place
returns-in_err-frame-clause-place g c masked shown =
    subst (λ place. IsPlaceOf c.args.depth masked place) (sym c.from_residual.ensures)
    (is_place c.args.compiled.now g.row.W (regions_in g.T.Timeline.history g.row.W c.args.words.now) masked shown.shows c.args.depth None
    (none_up_to g.T.Timeline.history g.row.W c.args.compiled.now c.args.words.now c.requires.sound c.args.depth c.word-frames.result c.min.result c.word-frames.ensures c.min.ensures c.in_err-frame.ensures))

pub returns-clause-step : goal.returns-clause-step
returns-clause-step g c =
    let read = c.in_ok-frame.ensures in
    is_next g.T.Timeline.history g.row.W c.args.compiled.now c.args.words.now c.requires.sound c.args.depth c.word-frames.result c.min.result c.word-frames.ensures c.min.ensures c.in_ok-frame.frame read.0 read.1
    c.word-function.result c.word-function.ensures c.frame_step-level.result c.frame_step-level.ensures

pub returns-clause-place : goal.returns-clause-place
returns-clause-place g c masked shown =
    let read = c.in_ok-frame.ensures in
    stands g.T.Timeline.history g.row.W c.args.compiled.now c.args.words.now c.requires.sound c.args.depth c.word-frames.result c.min.result c.word-frames.ensures c.min.ensures c.in_ok-frame.frame read.0 read.1
    c.word-function.result c.word-function.ensures c.frame_step-level.result c.frame_step-level.ensures masked shown
