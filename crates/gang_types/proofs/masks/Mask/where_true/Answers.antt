use Rattle.std.proofs.Common.{◌≡◌, ◌≤◌, length, arith}
use Rattle.gang_types.proofs.MaskWords.{true_lanes}
use Rattle.gang_types.proofs.masks.Mask.where_true.Goals as goal

pub returns : goal.returns
returns g c =
    let long : length c.args.words ≡ g.row.W = omega arith in
    let few : g.row.W ≤ 64 = omega arith in
    true_lanes g.row.W c.args.self.word c.args.words long few
