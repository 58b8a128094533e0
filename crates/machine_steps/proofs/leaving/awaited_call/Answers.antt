use Rattle.std.proofs.Common.{◌<◌, ◌∙◌, ap, arith, length}
use Rattle.std.specs.Prelude.{◌-◌}
use Rattle.gang_types.specs.Lanes.{no_lane}
use Rattle.machine_words.specs.Words.{regions_in}
use Rattle.machine_steps.proofs.Callers.{only_enters}
use Rattle.machine_steps.proofs.PassedCalls.{call_made, caller_found, caller_running, function_word, reads_call}
use Rattle.machine_steps.proofs.leaving.awaited_call.Goals as goal

pub word-caller-requires-clause-within : goal.word-caller-requires-clause-within
word-caller-requires-clause-within g c =
    function_word g.T.Timeline.history g.T.Timeline.left g.row.W c.args.compiled.now c.args.words.now c.requires.sound c.args.active c.requires.closing

pub frame_step-call-requires-clause-runs : goal.frame_step-call-requires-clause-runs
frame_step-call-requires-clause-runs g c =
    caller_running g.T.Timeline.history g.T.Timeline.left g.row.W c.args.compiled.now c.args.words.now c.requires.sound c.args.active c.requires.closing c.requires.above
    c.word-caller.result c.word-caller.ensures

pub steps-requires-clause-there : goal.steps-requires-clause-there
steps-requires-clause-there g c =
    caller_found g.T.Timeline.history g.T.Timeline.left g.row.W c.args.compiled.now c.args.words.now c.requires.sound c.args.active c.requires.closing c.requires.above
    c.word-caller.result c.word-caller.ensures

pub bounds-steps-call : goal.bounds-steps-call
bounds-steps-call g c =
    (reads_call g.T.Timeline.history g.T.Timeline.left g.row.W c.args.compiled.now c.args.words.now c.requires.sound c.args.active c.requires.closing c.requires.above
    c.word-caller.result c.word-caller.ensures c.frame_step-call.result c.frame_step-call.ensures c.steps.result.now c.steps.ensures.does).within

pub offset_bounds-steps-call : goal.offset_bounds-steps-call
offset_bounds-steps-call g c =
    let within : c.frame_step-call.result.step < length c.steps.result.now = bounds-steps-call g c in
    omega (arith, within, c.steps.type_inv.1)

pub unreachable-requires : goal.unreachable-requires
unreachable-requires g c =
    let reads = reads_call g.T.Timeline.history g.T.Timeline.left g.row.W c.args.compiled.now c.args.words.now c.requires.sound c.args.active c.requires.closing c.requires.above
    c.word-caller.result c.word-caller.ensures c.frame_step-call.result c.frame_step-call.ensures c.steps.result.now c.steps.ensures.does in
    only_enters c.index-steps-call.result reads.call.called reads.call.args reads.for reads.next (reads.does c.index-steps-call.result c.index-steps-call.is) c.in_default.not-Enter

pub returns : goal.returns
returns g c =
    let w = g.row.W in
    let compiled = c.args.compiled.now in
    let regions = regions_in g.T.Timeline.history w c.args.words.now in
    let found = c.frame_step-call.result in
    let reads = reads_call g.T.Timeline.history g.T.Timeline.left w compiled c.args.words.now c.requires.sound c.args.active c.requires.closing c.requires.above
    c.word-caller.result c.word-caller.ensures found c.frame_step-call.ensures c.steps.result.now c.steps.ensures.does in
    record {
      n = reads.n;
      g = reads.g;
      is_call = call_made w compiled regions (c.args.active.frame - 1) c.steps.result.now found reads c.in-Enter.function c.in-Enter.args c.in-Enter.result_for c.in-Enter.next
          c.index-steps-call.result c.index-steps-call.is c.in-Enter.is;
      lanes_are = reads.lanes_are;
      some = ap no_lane reads.lanes_are ∙ reads.some;
      sized = reads.sized;
    }
