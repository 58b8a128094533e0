use Rattle.std.proofs.Common.{◌≡◌, ◌≤◌, ◌∙◌, arith, length}
use Rattle.gang_types.specs.MaskLaws.{gang_width-le}
use Rattle.frame_steps.proofs.NextLanes.{equal_lanes}
use Rattle.frame_steps.proofs.waiting.waiting_for.Goals as goal

pub returns : goal.returns
returns g c =
    let w = g.row.W in
    let long : length c.args.numbers.now ≡ g.row.W = omega arith in
    let few : g.row.W ≤ 64 = omega (arith, gang_width-le g.row.W c.requires) in
    c.from_word.ensures.lanes ∙ equal_lanes w c.args.number c.args.numbers.now long few
