use Rattle.std.proofs.Common.{◌∙◌, sym, subst, ◌+◌, arith}
use Rattle.std.specs.Prelude.{◌==◌, ◌&&◌}
use Rattle.gang_types.specs.Lanes.{has}
use Rattle.gang_types.specs.Masks.{lanes_of}
use Rattle.gang_types.specs.MaskLaws.{length-lanes_of_word}
use Rattle.gang_model.specs.Running.Lanes.{at}
use Rattle.foreach_lowering.proofs.ByLanes.{AreBelow, one_lane_more, no_lane_more, where_by_lane}
use Rattle.foreach_lowering.proofs.lanes.with_value.Goals.{then-has_value, else-has_value}
use Rattle.foreach_lowering.proofs.lanes.with_value.Goals as goal

pub loop-lane-preserved : goal.loop-lane-preserved
loop-lane-preserved g c =
    elim c.if-has_value.branch [
      | then-has_value w ↦
          subst (λ lanes. AreBelow (λ k. has (lanes_of g.row.W c.args.lanes) k && (at c.args.values k == c.args.value)) (c.loop-lane.lane + 1) (lanes_of g.row.W lanes)) (sym w.equal-is)
          (one_lane_more (lanes_of g.row.W c.loop-lane.equal) (lanes_of g.row.W w.with-equal.result) (λ k. has (lanes_of g.row.W c.args.lanes) k && (at c.args.values k == c.args.value)) c.loop-lane.lane
          (omega (arith, c.loop-lane-test.true, length-lanes_of_word g.row.W c.loop-lane.equal.word)) (sym c.has_value.ensures ∙ w.if-has_value.true) w.with-equal.ensures c.loop-lane.invariant)
      | else-has_value w ↦
          subst (λ lanes. AreBelow (λ k. has (lanes_of g.row.W c.args.lanes) k && (at c.args.values k == c.args.value)) (c.loop-lane.lane + 1) (lanes_of g.row.W lanes)) (sym w.equal-is)
          (no_lane_more (lanes_of g.row.W c.loop-lane.equal) (λ k. has (lanes_of g.row.W c.args.lanes) k && (at c.args.values k == c.args.value)) c.loop-lane.lane
          (sym c.has_value.ensures ∙ w.if-has_value.false) c.loop-lane.invariant)
    ]

pub returns : goal.returns
returns g c =
    where_by_lane (lanes_of g.row.W c.loop-lane.equal) (lanes_of g.row.W c.args.lanes) (λ k. at c.args.values k == c.args.value) g.row.W (length-lanes_of_word g.row.W c.loop-lane.equal.word)
    (length-lanes_of_word g.row.W c.args.lanes.word) (λ k within. c.loop-lane.invariant.0 k (omega (arith, within, c.loop-lane-test.false)))
