use Rattle.std.proofs.Common.{slice_index, ◌∙◌, sym, ap}
use Rattle.std.specs.Prelude.{Ok, replicate}
use Rattle.gang_types.specs.Masks.{lanes_of}
use Rattle.gang_types.specs.MaskLaws.{length-lanes_of_word}
use Rattle.cross_lane.specs.Calls.{spread_answer}
use Rattle.cross_lane.specs.EachLaws.{each_same}
use Rattle.lane_kernels.proofs.VectorLanes.{lane_splat}
use Rattle.cross_lane.proofs.shuffles.broadcast.Goals as goal

pub returns-in-Ok : goal.returns-in-Ok
returns-in-Ok g c =
    ap Ok
    (c.active_words.ensures
    ∙ each_same g.row.W (lanes_of g.row.W c.args.mask) (slice_index (replicate g.row.W c.in-Ok.value)) (λ k. c.in-Ok.value) (length-lanes_of_word g.row.W c.args.mask.word)
    (λ i h e. lane_splat g.row.W i c.in-Ok.value h))
    ∙ ap (spread_answer (lanes_of g.row.W c.args.mask)) (sym c.in-Ok.is)
    ∙ c.extract.ensures.spread
