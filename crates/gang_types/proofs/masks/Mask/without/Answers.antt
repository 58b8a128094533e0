use Rattle.std.proofs.Common.{rules, ◌<◌, ◌^◌}
use Rattle.gang_types.proofs.MaskWords.{without_lanes}
use Rattle.gang_types.proofs.masks.Mask.without.Goals as goal

pub returns : goal.returns
returns c w =
    let first : c.args.self.word < 2 ^ 64 = search rules in
    let other : c.args.other.word < 2 ^ 64 = search rules in
    without_lanes w c.args.self.word c.args.other.word first other
