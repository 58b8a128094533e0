use Rattle.std.proofs.Common.{◌+◌, ◌%◌, ◌^◌, slice_index, ◌∙◌, sym, ap}
use Rattle.std.specs.Prelude.{bit_and, bit_or, nat_lt}
use Rattle.cross_lane.specs.Folds.{combined}
use Rattle.cross_lane.proofs.VectorLanes.{lane_zip2}
use Rattle.lane_kernels.proofs.VectorLanes.{lane_chosen}
use Rattle.cross_lane.proofs.folds.combine.Goals.{in-Add, in-And, in-Or, in-Min, in-Max}
use Rattle.cross_lane.proofs.folds.combine.Goals as goal

pub returns : goal.returns
returns g c =
    let lx = c.fits-x.0 in
    let ly = c.fits-y.0 in
    λ i h. elim c.match-fold.branch [
      | in-Add w ↦ ap (λ l. slice_index l i) w.result-is ∙ lane_zip2 (λ x y. (x + y) % 2 ^ 64) g.row.W c.args.x c.args.y lx ly i h ∙ ap (λ o. combined o (slice_index c.args.x i) (slice_index c.args.y i)) (sym w.in-Add.is)
      | in-And w ↦ ap (λ l. slice_index l i) w.result-is ∙ lane_zip2 bit_and g.row.W c.args.x c.args.y lx ly i h ∙ ap (λ o. combined o (slice_index c.args.x i) (slice_index c.args.y i)) (sym w.in-And.is)
      | in-Or w ↦ ap (λ l. slice_index l i) w.result-is ∙ lane_zip2 bit_or g.row.W c.args.x c.args.y lx ly i h ∙ ap (λ o. combined o (slice_index c.args.x i) (slice_index c.args.y i)) (sym w.in-Or.is)
      | in-Min w ↦ ap (λ l. slice_index l i) w.result-is ∙ lane_chosen g.row.W nat_lt c.args.y c.args.x c.args.y c.args.x ly lx ly lx i h ∙ ap (λ o. combined o (slice_index c.args.x i) (slice_index c.args.y i)) (sym w.in-Min.is)
      | in-Max w ↦ ap (λ l. slice_index l i) w.result-is ∙ lane_chosen g.row.W nat_lt c.args.x c.args.y c.args.y c.args.x lx ly ly lx i h ∙ ap (λ o. combined o (slice_index c.args.x i) (slice_index c.args.y i)) (sym w.in-Max.is)
    ]
