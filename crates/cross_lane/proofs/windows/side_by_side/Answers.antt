use Rattle.std.proofs.Common.{◌≡◌, ◌*◌, length, take, arith, ◌∙◌, ap}
use lib.Lanes.{put_chunk}
use Rattle.cross_lane.proofs.Rows.{side_by_side_is}
use Rattle.cross_lane.proofs.windows.side_by_side.Goals as goal
use Rattle.gang_types.specs.MaskLaws.{gang_width-le}

pub returns : goal.returns
returns g c =
    let long : length c.filled-row.result ≡ 48 = omega arith in
    ap (take (2 * g.row.W)) (c.place-2.ensures ∙ ap (λ row. put_chunk g.row.W row c.args.second) c.place.ensures)
    ∙ side_by_side_is c.filled-row.result c.args.first c.args.second g.row.W long c.fits-first.0 c.fits-second.0 (gang_width-le g.row.W c.requires)
