use Rattle.std.proofs.Common.{arith}
use Rattle.machine_steps.proofs.FilledVariables.{all_cleared, none_cleared, one_cleared, plenty_left}
use Rattle.machine_steps.proofs.beginning.clear.Goals as goal

pub loop-index-init : goal.loop-index-init
loop-index-init g c = none_cleared g.T.Timeline.history g.T.Timeline.left g.row.W c.args.number c.args.count c.args.words.now c.requires.laid c.requires.long

pub set-requires : goal.set-requires
set-requires g c =
    let mid = c.loop-index.words in
    let plenty = plenty_left g.T.Timeline.history g.T.Timeline.left c.args.words.now mid c.requires.fresh c.loop-index.invariant.rest in
    record {
      width = c.requires.width;
      laid = c.loop-index.invariant.laid;
      within = omega (arith, c.loop-index.invariant.long, c.loop-index-test.true);
      left = omega (arith, plenty);
    }

pub loop-index-preserved : goal.loop-index-preserved
loop-index-preserved g c =
    one_cleared g.T.Timeline.history g.T.Timeline.left g.row.W c.args.number c.args.count c.args.words.now c.loop-index.index c.loop-index.words c.loop-index.invariant c.loop-index-test.true
    c.set.new.self c.set.ensures

pub returns : goal.returns
returns g c =
    all_cleared g.T.Timeline.history g.T.Timeline.left g.row.W c.args.number c.args.count c.args.words.now c.loop-index.index c.loop-index.words c.loop-index.invariant (c.loop-index-test.false)
