use Rattle.std.proofs.Common.{◌-◌, cond, nat_le, arith, slice_index, ◌∙◌, ap}
use Rattle.cross_lane.specs.Folds.{combined}
use Rattle.cross_lane.proofs.Rows.{windowed_below}
use Rattle.cross_lane.proofs.folds.doubled.Goals as goal

pub returns : goal.returns
returns g c =
    λ i h. c.combine.ensures i h
    ∙ ap (λ x. combined c.args.fold x (slice_index c.args.words i))
    (c.window.ensures i h ∙ windowed_below c.neutral.result c.args.words c.args.by i c.requires.near (omega (arith, c.fits-words.0)) ∙ ap (λ e. cond (nat_le c.args.by i) (slice_index c.args.words (i - c.args.by)) e) c.neutral.ensures)
