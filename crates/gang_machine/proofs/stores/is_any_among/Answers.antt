use Rattle.std.proofs.Common.{◌+◌, ◌∙◌, ap, arith, sym}
use Rattle.std.specs.Prelude.{◌&&◌, nat_le, nat_lt}
use Rattle.gang_types.specs.Masks.{lanes_of}
use Rattle.gang_types.specs.MaskLaws.{length-lanes_of_word}
use Rattle.gang_model.specs.Running.Lanes.{at}
use Rattle.gang_machine.proofs.AnyLanes.{no_lane_passes, some_lane}
use Rattle.gang_machine.proofs.stores.is_any_among.Goals as goal

pub returns-then-is_among : goal.returns-then-is_among
returns-then-is_among g c =
    let first = c.args.first in
    let from = c.args.from in
    let end = c.args.from + c.args.count in
    let here = ap (λ index. nat_le from (first + index) && nat_lt (first + index) end) (sym c.from.ensures) in
    sym (some_lane (λ k. nat_le from (first + at c.args.indices.now k) && nat_lt (first + at c.args.indices.now k) end)
    (lanes_of g.row.W c.args.lanes) c.loop-lane.lane (sym c.has.ensures ∙ c.if-has.true) (here ∙ sym c.is_among.ensures ∙ c.if-is_among.true))

pub returns : goal.returns
returns g c =
    let first = c.args.first in
    let from = c.args.from in
    let end = c.args.from + c.args.count in
    let long = length-lanes_of_word g.row.W c.args.lanes.word in
    sym (no_lane_passes (λ k. nat_le from (first + at c.args.indices.now k) && nat_lt (first + at c.args.indices.now k) end) (lanes_of g.row.W c.args.lanes)
    (λ k below there. c.loop-lane.invariant k (omega (arith, below, long, c.loop-lane-test.false)) there))
