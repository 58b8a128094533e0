use Rattle.std.proofs.Common.{◌≡◌, length, arith, slice_index, ◌∙◌, ap}
use lib.Lanes.{chunk}
use Rattle.cross_lane.proofs.Rows.{window_lane}
use Rattle.cross_lane.proofs.windows.window.Goals as goal
use Rattle.gang_types.specs.MaskLaws.{gang_width-le}

pub returns : goal.returns
returns g c =
    let long : length c.filled-row.result ≡ 48 = omega arith in
    λ i h. ap (λ l. slice_index l i) c.read.ensures
    ∙ ap (λ row. slice_index (chunk c.args.from g.row.W row) i) c.place.ensures
    ∙ window_lane c.args.fill c.filled-row.result c.args.words g.row.W c.args.from long c.fits-words.0 (gang_width-le g.row.W c.requires.width) c.requires.near c.filled-row.ensures i h
