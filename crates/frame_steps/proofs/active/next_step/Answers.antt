use Rattle.std.proofs.Common.{refl, arith}
use Rattle.frame_steps.proofs.TopFrames.{function_word, top_depth, top_running, top_runs}
use Rattle.frame_steps.proofs.active.next_step.Goals as goal

pub word-function-requires-clause-within : goal.word-function-requires-clause-within
word-function-requires-clause-within g c =
    let read = c.in_ok-frame.ensures in
    let long = function_word g.T.Timeline.history g.row.W c.args.compiled.now c.args.words.now c.requires.sound c.word-depth.result c.in_ok-frame.frame c.word-depth.ensures read.0 read.1 in
    omega (arith, long)

pub frame_step-level-requires-clause-runs : goal.frame_step-level-requires-clause-runs
frame_step-level-requires-clause-runs g c =
    let read = c.in_ok-frame.ensures in
    top_running g.T.Timeline.history g.row.W c.args.compiled.now c.args.words.now c.requires.sound c.word-depth.result c.in_ok-frame.frame c.word-depth.ensures read.0 read.1 c.word-function.result c.word-function.ensures

pub returns : goal.returns
returns g c =
    let read = c.in_ok-frame.ensures in
    let runs = top_runs g.T.Timeline.history g.row.W c.args.compiled.now c.args.words.now c.requires.sound c.word-depth.result c.in_ok-frame.frame c.word-depth.ensures read.0 read.1 c.word-function.result c.word-function.ensures in
    let found = c.frame_step-level.ensures runs.0 runs.2 in (
      runs.0,
      record {
        next = record {
          depth = top_depth g.T.Timeline.history g.row.W c.args.compiled.now c.args.words.now c.requires.sound c.word-depth.result c.in_ok-frame.frame c.word-depth.ensures read.0 read.1;
          function = runs.1;
          is_function = runs.2;
          innermost = found.innermost;
          least_number = found.least_number;
          is_point = refl;
        };
        lanes = found.lanes;
      },
    )
