use Rattle.std.proofs.Common.{rules, ◌<◌, ◌^◌}
use Rattle.gang_types.proofs.MaskWords.{lowest_lane, lowest_within}
use Rattle.gang_types.proofs.masks.Mask.lowest.Goals as goal

pub returns-clause-value : goal.returns-clause-value
returns-clause-value g c =
    let fits : c.args.self.word < 2 ^ 64 = search rules in
    lowest_lane g.row.W c.args.self.word fits c.requires.lane

pub returns-clause-within : goal.returns-clause-within
returns-clause-within g c =
    let fits : c.args.self.word < 2 ^ 64 = search rules in
    lowest_within g.row.W c.args.self.word fits c.requires.lane
