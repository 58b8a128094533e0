use Rattle.std.proofs.Common.{◌+◌, arith, slice_index}
use Rattle.gang_types.specs.Masks.{lanes_of}
use Rattle.gang_types.specs.MaskLaws.{length-lanes_of_word}
use Rattle.cross_lane.specs.EachLaws.{each_is}
use Rattle.gang_memory.proofs.Members.{lane_within}
use Rattle.gang_memory.proofs.slots.slots.Goals as goal

pub returns-clause-ok : goal.returns-clause-ok
returns-clause-ok g c =
    let lanes = lanes_of g.row.W c.args.mask in
    let long = length-lanes_of_word g.row.W c.args.mask.word in
    record {
      there = λ k e. let within = lane_within g.row.W lanes k long e in c.loop-lane.invariant.there k (omega (arith, within, c.loop-lane-test.false)) e;
      slots_are = each_is g.row.W lanes (λ k. c.args.part.first + slice_index c.args.indices k) c.loop-lane.slots long c.loop-lane.invariant.long (λ k within. c.loop-lane.invariant.done k (omega (arith, within, c.loop-lane-test.false)));
    }
