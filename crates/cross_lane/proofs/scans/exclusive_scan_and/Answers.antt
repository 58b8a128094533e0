use Rattle.std.proofs.Common.{rules, ◌≡◌, ◌<◌, ◌^◌, ℕ, length, arith, slice_index, ◌∙◌, ap}
use Rattle.std.specs.Prelude.{bit_and, replicate}
use lib.Lanes.{zip2}
use Rattle.gang_types.specs.Masks.{lanes_of}
use Rattle.gang_types.specs.MaskLaws.{length-lanes_of_word}
use Rattle.gang_model.specs.Running.Library.{scanned, before_lane}
use Rattle.gang_model.specs.Types.Tree.{ScanAnd}
use Rattle.cross_lane.specs.Calls.{values_in}
use Rattle.cross_lane.proofs.VectorLanes.{lane_zip2}
use Rattle.lane_kernels.proofs.VectorLanes.{lane_splat, length_splat}
use Rattle.cross_lane.specs.EachLaws.{each_same}
use Rattle.cross_lane.proofs.Joined.{all_before}
use Rattle.cross_lane.proofs.scans.exclusive_scan_and.Goals as goal

pub returns : goal.returns
returns g c =
    let fits : (k : ℕ) → slice_index c.args.words k < 2 ^ 64 = λ k. search rules in
    let long : length c.folds_before.result ≡ g.row.W = omega arith in
    c.active_words.ensures
    ∙ each_same g.row.W (lanes_of g.row.W c.args.mask) (slice_index (zip2 bit_and c.folds_before.result (replicate g.row.W c.wrap.result)))
    (λ k. scanned ScanAnd c.args.ty (before_lane k (lanes_of g.row.W c.args.mask) (values_in (lanes_of g.row.W c.args.mask) c.args.words)))
    (length-lanes_of_word g.row.W c.args.mask.word)
    (λ i h e.
    lane_zip2 bit_and g.row.W c.folds_before.result (replicate g.row.W c.wrap.result) long (length_splat g.row.W c.wrap.result) i h
    ∙ ap (bit_and (slice_index c.folds_before.result i)) (lane_splat g.row.W i c.wrap.result h)
    ∙ all_before c.args.ty (lanes_of g.row.W c.args.mask) (slice_index c.args.words) i (slice_index c.folds_before.result i) c.wrap.result (omega (arith, length-lanes_of_word g.row.W c.args.mask.word)) fits c.wrap.ensures.value (c.folds_before.ensures i h))
