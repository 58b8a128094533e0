use Rattle.std.proofs.Common.{[], arith}
use Rattle.lane_meetings.proofs.Meeting.{next_of, some_of}
use Rattle.lane_meetings.proofs.meetings.end_all.Goals as goal

pub loop-step-preserved : goal.loop-step-preserved
loop-step-preserved c = record {
  counts = λ measure chosen fits.
      let waiting = c.args.waiting.now in
      let i = c.loop-step.step-index in
      let so = c.loop-step.invariant.counts measure chosen fits in
      let more = next_of measure chosen waiting i [] c.loop-step-test.true in
      let few = some_of measure chosen waiting i [] c.loop-step-test.true in
      let left = c.left.ensures measure chosen in
      let ended = c.in_ok-end.ensures.counts measure chosen (omega (arith, so, few, fits, left)) in
      omega (arith, so, more, left, ended);
  distinct = λ distinct. c.in_ok-end.ensures.distinct (c.loop-step.invariant.distinct distinct);
}
