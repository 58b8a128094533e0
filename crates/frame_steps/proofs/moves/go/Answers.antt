use Rattle.frame_steps.proofs.MoveSteps.{go_may_send, gone}
use Rattle.frame_steps.proofs.moves.go.Goals as goal

pub send_on-requires : goal.send_on-requires
send_on-requires g c =
    go_may_send g.T.Timeline.history g.T.Timeline.left g.row.W c.args.compiled.now c.args.words.now c.requires.sound c.args.active c.args.next c.requires.does
    c.begin.new.words c.begin.ensures

pub returns : goal.returns
returns g c =
    gone g.T.Timeline.history g.T.Timeline.left g.row.W c.args.compiled.now c.args.words.now c.requires.sound c.args.active c.args.next c.requires.does
    c.begin.new.words c.send_on.new.words c.begin.ensures c.send_on.ensures
