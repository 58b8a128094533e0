use Rattle.std.proofs.Common.{◌∷◌, arith}
use Rattle.lane_meetings.proofs.Meeting.{next_of, some_of}
use Rattle.lane_meetings.proofs.meetings.go_on.Goals as goal

pub loop-step-preserved : goal.loop-step-preserved
loop-step-preserved c = record {
  counts = λ measure chosen stand later at fits.
      let waiting = c.args.waiting.now in
      let i = c.loop-step.step-index in
      let so = c.loop-step.invariant.counts measure chosen stand later at fits in
      let more = next_of measure chosen waiting i (stand ∷ later) c.loop-step-test.true in
      let few = some_of measure chosen waiting i (stand ∷ later) c.loop-step-test.true in
      let left = c.after.ensures measure chosen stand later at (omega (arith, few, fits)) in
      let kept = c.in_ok-keep.ensures.counts measure chosen later (omega (arith, so, few, fits, left)) in
      omega (arith, so, more, left, kept);
  distinct = λ distinct. c.in_ok-keep.ensures.distinct (c.loop-step.invariant.distinct distinct);
}
