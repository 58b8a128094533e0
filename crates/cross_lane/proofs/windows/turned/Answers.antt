use Rattle.std.proofs.Common.{slice_index, ◌∙◌, ap}
use Rattle.cross_lane.proofs.Rows.{turned_from}
use Rattle.cross_lane.proofs.windows.turned.Goals as goal

pub returns : goal.returns
returns g c =
    λ i h. ap (λ l. slice_index l i) c.read.ensures
    ∙ turned_from c.side_by_side.result c.args.words g.row.W c.args.places c.fits-words.0 c.requires.near c.side_by_side.ensures i h
