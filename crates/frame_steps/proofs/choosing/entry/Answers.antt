use Rattle.std.proofs.Common.{sym, ◌∙◌}
use Rattle.frame_steps.proofs.ChosenSegments.{found_here, found_is, found_past}
use Rattle.frame_steps.proofs.choosing.entry.Goals as goal

pub returns-then-label-value : goal.returns-then-label-value
returns-then-label-value c = λ labelled entries are.
    sym (found_here c.args.segments.now c.loop-segment.segment-index _ c.args.value c.loop-segment.default c.args.next c.in-Some.label c.loop-segment-test.true c.in-Some.is c.if-label-value.true)
    ∙ c.loop-segment.invariant ∙ found_is c.args.value c.args.next c.args.segments.now labelled entries are

pub returns : goal.returns
returns c = λ labelled entries are.
    c.unwrap_or.ensures ∙ sym (found_past c.args.segments.now c.loop-segment.segment-index c.args.value c.loop-segment.default c.args.next c.loop-segment-test.false)
    ∙ c.loop-segment.invariant ∙ found_is c.args.value c.args.next c.args.segments.now labelled entries are
