use Rattle.std.proofs.Common.{◌∙◌, ap, sym, arith}
use Rattle.std.specs.Int.{bit_at}
use Rattle.std.specs.Prelude.{◌==◌}
use Rattle.gang_types.specs.Masks.{lanes_of_word}
use Rattle.lane_counts.specs.Steps.{active}
use Rattle.lane_counts.specs.Pending.{width_of}
use Rattle.lane_counts.proofs.Parting.{shorter_first, shorter_next}
use Rattle.lane_counts.proofs.gang.Gang.both.Goals as goal

pub returns-then-width : goal.returns-then-width
unfolding lanes_of_word
returns-then-width c =
    c.count.ensures.value ∙ ap active (c.and-both.ensures (width_of c.args.self)
    ∙ sym (shorter_first (λ k. bit_at c.args.lanes.word k == 1) (λ k. bit_at c.args.next.word k == 1) 0 (width_of c.args.self) (width_of c.args.other)
    (omega (arith, c.if-width.true, c.width.ensures.value, c.width-2.ensures.value))))

pub returns-else-width : goal.returns-else-width
unfolding lanes_of_word
returns-else-width c =
    c.count-else-width.ensures.value ∙ ap active (c.and-both.ensures (width_of c.args.other)
    ∙ sym (shorter_next (λ k. bit_at c.args.lanes.word k == 1) (λ k. bit_at c.args.next.word k == 1) 0 (width_of c.args.self) (width_of c.args.other)
    (omega (arith, c.if-width.false, c.width.ensures.value, c.width-2.ensures.value))))
