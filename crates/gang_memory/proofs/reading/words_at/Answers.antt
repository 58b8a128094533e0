use Rattle.std.proofs.Common.{arith, slice_index}
use Rattle.gang_types.specs.Masks.{lanes_of}
use Rattle.gang_types.specs.MaskLaws.{length-lanes_of_word}
use Rattle.cross_lane.specs.EachLaws.{each_is}
use Rattle.gang_memory.proofs.reading.words_at.Goals as goal

pub returns : goal.returns
returns g c =
    each_is g.row.W (lanes_of g.row.W c.args.mask) (λ k. slice_index (g.S.WordStore.words c.args.store.now) (slice_index c.args.slots k)) c.loop-lane.words (length-lanes_of_word g.row.W c.args.mask.word) c.loop-lane.invariant.long
    (λ k within. c.loop-lane.invariant.done k (omega (arith, within, c.loop-lane-test.false)))
