use Rattle.gang_types.specs.MaskLaws.{gang_width-le}
use Rattle.conditional_stops.proofs.Judged.{lanes_within}
use Rattle.conditional_stops.proofs.judging.holding_lanes.Goals as goal

pub returns : goal.returns
returns c gang =
    let found = c.args.found.now in
    lanes_within found.width c.where_true.result.word found.lanes.word found.words (gang_width-le found.width gang) c.where_true.ensures
