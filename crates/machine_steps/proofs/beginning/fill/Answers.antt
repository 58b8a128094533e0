use Rattle.gang_types.specs.Masks.{lanes_of}
use Rattle.machine_steps.proofs.FilledVariables.{scalar_filled}
use Rattle.machine_steps.proofs.beginning.fill.Goals as goal

pub returns-else-global : goal.returns-else-global
returns-else-global g c =
    scalar_filled g.T.Timeline.history g.T.Timeline.left g.row.W c.args.number c.requires.width c.args.global.now c.args.words.now c.if-global.false c.requires.long
    c.assign.new.self (lanes_of g.row.W c.all.result) c.all.ensures c.assign.ensures
