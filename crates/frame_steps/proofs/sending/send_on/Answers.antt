use Rattle.std.proofs.Common.{arith}
use Rattle.std.specs.Prelude.{replicate}
use Rattle.gang_types.specs.MaskLaws.{gang_width-le}
use Rattle.gang_model.specs.Running.Lanes.{at}
use Rattle.frame_steps.proofs.SentSteps.{sends_to, target_at}
use Rattle.frame_steps.proofs.sending.send_on.Goals as goal

pub send_each-requires : goal.send_each-requires
send_each-requires g c = (omega (arith, gang_width-le g.row.W c.requires.gang), c.requires)

pub returns : goal.returns
returns g c =
    sends_to g.T.Timeline.history g.T.Timeline.left g.row.W c.args.frame c.args.level c.args.lanes c.args.words.now c.send_each.new.words
    (at (replicate g.row.W c.args.next)) (λ k. c.args.next) (target_at g.row.W c.args.next) c.send_each.ensures
