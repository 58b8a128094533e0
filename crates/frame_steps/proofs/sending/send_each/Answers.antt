use Rattle.std.proofs.Common.{◌≡◌, length, arith}
use Rattle.gang_types.specs.MaskLaws.{gang_width-le}
use Rattle.frame_steps.proofs.SentSteps.{sends}
use Rattle.frame_steps.proofs.sending.send_each.Goals as goal

pub set_lanes-requires : goal.set_lanes-requires
set_lanes-requires g c =
    let may = c.requires in
    (omega (arith, gang_width-le g.row.W may.gang), (may.gang, (may.laid, (may.numbered, (may.some, may.room)))))

pub returns : goal.returns
returns g c =
    let long : length c.args.targets ≡ g.row.W = omega arith in
    sends g.T.Timeline.history g.T.Timeline.left g.row.W c.args.frame c.args.level c.args.lanes c.args.words.now c.set_lanes.new.self c.args.targets long c.set_lanes.ensures
