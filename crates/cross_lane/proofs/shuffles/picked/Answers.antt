use Rattle.std.proofs.Common.{arith, slice_index, ◌∙◌, sym, ap}
use Rattle.std.specs.Prelude.{Ok}
use Rattle.gang_types.specs.declared.faults.FaultName.TheVariants.{LaneIndex}
use Rattle.gang_types.specs.Masks.{lanes_of}
use Rattle.gang_types.specs.MaskLaws.{length-lanes_of_word}
use Rattle.gang_model.specs.Running.Library.{lane_value}
use Rattle.cross_lane.specs.EachLaws.{each_is}
use Rattle.cross_lane.specs.AttemptLaws.{all_ok, first_err, lane_found, lane_missing}
use Rattle.cross_lane.proofs.shuffles.picked.Goals as goal

pub returns-then-places-lane : goal.returns-then-places-lane
returns-then-places-lane g c =
    sym (first_err (lanes_of g.row.W c.args.mask) (λ k. lane_value c.args.row.now (slice_index c.args.places k)) (λ k. slice_index c.args.row.now (slice_index c.args.places k)) c.loop-lane.lane LaneIndex
    (sym c.has.ensures ∙ c.if-has.true)
    (lane_missing c.args.row.now (slice_index c.args.places c.loop-lane.lane) c.if-places-lane.true)
    (λ i h e. lane_found c.args.row.now (slice_index c.args.places i) (c.loop-lane.invariant.1 i h e)))

pub returns : goal.returns
returns g c =
    ap Ok
    (each_is g.row.W (lanes_of g.row.W c.args.mask) (λ k. slice_index c.args.row.now (slice_index c.args.places k)) c.loop-lane.picked (length-lanes_of_word g.row.W c.args.mask.word) c.loop-lane.invariant.0
    (λ i h. c.loop-lane.invariant.2 i (omega arith)))
    ∙ sym (all_ok g.row.W (lanes_of g.row.W c.args.mask) (λ k. lane_value c.args.row.now (slice_index c.args.places k)) (λ k. slice_index c.args.row.now (slice_index c.args.places k)) (length-lanes_of_word g.row.W c.args.mask.word)
    (λ i h e. lane_found c.args.row.now (slice_index c.args.places i) (c.loop-lane.invariant.1 i (omega arith) e)))
