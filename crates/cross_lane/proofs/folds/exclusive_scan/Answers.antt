use Rattle.std.proofs.Common.{◌≡◌, ◌+◌, length, arith, slice_index, ◌∙◌, ap}
use Rattle.cross_lane.specs.Folds.{combined, neutral}
use Rattle.cross_lane.specs.Folds.{windowed}
use Rattle.cross_lane.proofs.Spans.{after_shift}
use Rattle.cross_lane.proofs.folds.exclusive_scan.Goals as goal

pub returns : goal.returns
returns g c =
    let long : length c.inclusive_scan.result ≡ g.row.W = omega arith in
    after_shift (combined c.args.fold) (neutral c.args.fold) g.row.W (slice_index c.args.words) c.inclusive_scan.result c.window.result long c.inclusive_scan.ensures
    (λ j h. c.window.ensures j h ∙ ap (λ e. windowed e c.inclusive_scan.result (j + 15)) c.neutral.ensures)
