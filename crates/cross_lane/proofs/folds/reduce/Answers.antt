use Rattle.std.proofs.Common.{◌≡◌, ◌+◌, ◌-◌, arith, slice_index, ◌∙◌, ap}
use Rattle.cross_lane.specs.Folds.{combined, neutral, fold_below}
use Rattle.cross_lane.proofs.folds.reduce.Goals as goal

pub returns : goal.returns
returns g c =
    let e : g.row.W - 1 + 1 ≡ g.row.W = omega arith in
    c.inclusive_scan.ensures (g.row.W - 1) (omega arith) ∙ ap (fold_below (combined c.args.fold) (neutral c.args.fold) (slice_index c.args.words)) e
