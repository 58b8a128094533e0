use Rattle.std.proofs.Common.{◌≡◌, length, arith}
use Rattle.gang_types.specs.Masks.{lanes_of}
use Rattle.gang_types.specs.MaskLaws.{gang_width-le, length-lanes_of_word}
use Rattle.cross_lane.specs.EachLaws.{lane_number}
use Rattle.cross_lane.proofs.VectorLanes.{active_lane, numbers_fit}
use Rattle.cross_lane.proofs.active.filled_outside.Goals as goal

pub overflow_shr-bits : goal.overflow_shr-bits
overflow_shr-bits g c =
    let ln : length c.lane_numbers.result ≡ g.row.W = omega arith in
    numbers_fit c.word.result g.row.W c.lane_numbers.result (gang_width-le g.row.W c.requires) ln (lane_number g.row.W c.lane_numbers.result c.lane_numbers.ensures)

pub returns : goal.returns
returns g c =
    let ln : length c.lane_numbers.result ≡ g.row.W = omega arith in
    active_lane c.word.result g.row.W c.args.fill (lanes_of g.row.W c.args.mask) c.lane_numbers.result c.args.words ln c.fits-words.0
    (length-lanes_of_word g.row.W c.args.mask.word) c.word.ensures (lane_number g.row.W c.lane_numbers.result c.lane_numbers.ensures)
