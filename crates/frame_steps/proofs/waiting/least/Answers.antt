use Rattle.std.proofs.Common.{◌<◌, sym, ◌∙◌, ap, arith, length, slice_index}
use Rattle.std.specs.Prelude.{min}
use Rattle.frame_steps.proofs.NextLanes.{least_more}
use Rattle.frame_steps.proofs.waiting.least.Goals as goal

pub loop-number-preserved : goal.loop-number-preserved
loop-number-preserved g c =
    let numbers = c.args.numbers.now in
    let i = c.loop-number.number-index in
    let within : i < length numbers = omega arith in
    c.min-found.ensures ∙ ap (λ m. min m (slice_index numbers i)) c.loop-number.invariant ∙ sym (least_more c.args.end numbers i within)
