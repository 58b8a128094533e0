use Rattle.std.proofs.Common.{rules, ◌≡◌, ◌<◌, ◌+◌, ◌-◌, ◌%◌, ◌^◌, ℕ, length, arith, slice_index, ◌∙◌, ap}
use Rattle.std.specs.Prelude.{nat_eq, replicate}
use lib.Lanes.{zip2}
use Rattle.gang_types.specs.Lanes.{no_lane}
use Rattle.gang_types.specs.Masks.{lanes_of}
use Rattle.gang_types.specs.MaskLaws.{length-lanes_of_word}
use Rattle.gang_model.specs.Running.Lanes.{truth_word}
use Rattle.cross_lane.proofs.VectorLanes.{lane_zip2}
use Rattle.lane_kernels.proofs.VectorLanes.{lane_splat, length_splat}
use Rattle.cross_lane.proofs.LaneTests.{all_equal, difference_zero}
use Rattle.cross_lane.proofs.reductions.reduce_equal.Goals as goal

pub returns : goal.returns
returns g c =
    let long : length c.args.words ≡ g.row.W = omega arith in
    let fits : (k : ℕ) → slice_index c.args.words k < 2 ^ 64 = λ k. search rules in
    λ ty. c.truth_word.ensures
    ∙ ap truth_word
    (c.is_empty.ensures
    ∙ ap no_lane c.where_true.ensures
    ∙ all_equal (lanes_of g.row.W c.args.mask) (slice_index c.args.words) (slice_index (zip2 (λ a b. (a + (2 ^ 64 - b)) % 2 ^ 64) c.args.words (replicate g.row.W (slice_index c.args.words c.lowest.result)))) c.requires.lane
    (λ i h.
    let within : i < g.row.W = omega (arith, length-lanes_of_word g.row.W c.args.mask.word) in
    ap (λ d. nat_eq d 0)
    (lane_zip2 (λ a b. (a + (2 ^ 64 - b)) % 2 ^ 64) g.row.W c.args.words (replicate g.row.W (slice_index c.args.words c.lowest.result)) long (length_splat g.row.W (slice_index c.args.words c.lowest.result)) i within
    ∙ ap (λ b. (slice_index c.args.words i + (2 ^ 64 - b)) % 2 ^ 64) (lane_splat g.row.W i (slice_index c.args.words c.lowest.result) within))
    ∙ difference_zero (slice_index c.args.words i) (slice_index c.args.words c.lowest.result) (fits i) (fits c.lowest.result)
    ∙ ap (λ k. nat_eq (slice_index c.args.words i) (slice_index c.args.words k)) c.lowest.ensures.value))
