use Rattle.std.proofs.Common.{arith, slice_index, ◌∙◌, ap, cond}
use Rattle.gang_types.specs.Lanes.{has}
use Rattle.gang_types.specs.Masks.{lanes_of}
use Rattle.cross_lane.specs.Folds.{combined, neutral}
use Rattle.cross_lane.proofs.Joined.{fold_same}
use Rattle.cross_lane.proofs.scans.folds_before.Goals as goal

pub returns : goal.returns
returns g c =
    λ i h. c.exclusive_scan.ensures i h
    ∙ fold_same (combined c.args.fold) (neutral c.args.fold) (slice_index c.filled_outside.result) (λ k. cond (has (lanes_of g.row.W c.args.mask) k) (slice_index c.args.words k) (neutral c.args.fold)) i
    (λ j l. c.filled_outside.ensures j (omega arith) ∙ ap (λ e. cond (has (lanes_of g.row.W c.args.mask) j) (slice_index c.args.words j) e) c.neutral.ensures)
