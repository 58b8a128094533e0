use Rattle.std.proofs.Common.{rules, ◌<◌, ◌^◌, ℕ, arith, slice_index, ◌∙◌}
use Rattle.gang_types.specs.Masks.{lanes_of}
use Rattle.gang_types.specs.MaskLaws.{length-lanes_of_word}
use Rattle.gang_model.specs.Running.Library.{scanned, before_lane}
use Rattle.gang_model.specs.Types.Tree.{ScanOr}
use Rattle.cross_lane.specs.Calls.{values_in}
use Rattle.cross_lane.specs.EachLaws.{each_same}
use Rattle.cross_lane.proofs.Joined.{any_before}
use Rattle.cross_lane.proofs.scans.exclusive_scan_or.Goals as goal

pub returns : goal.returns
returns g c =
    let fits : (k : ℕ) → slice_index c.args.words k < 2 ^ 64 = λ k. search rules in
    λ ty. c.active_words.ensures
    ∙ each_same g.row.W (lanes_of g.row.W c.args.mask) (slice_index c.folds_before.result)
    (λ k. scanned ScanOr ty (before_lane k (lanes_of g.row.W c.args.mask) (values_in (lanes_of g.row.W c.args.mask) c.args.words)))
    (length-lanes_of_word g.row.W c.args.mask.word)
    (λ i h e. any_before ty (lanes_of g.row.W c.args.mask) (slice_index c.args.words) i (slice_index c.folds_before.result i) (omega (arith, length-lanes_of_word g.row.W c.args.mask.word)) fits (c.folds_before.ensures i h))
