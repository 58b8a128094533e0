use Rattle.std.proofs.Common.{refl, arith}
use Rattle.lane_picture.proofs.Watching.{none_noted, one_noted}
use Rattle.lane_picture.proofs.columns.note_words.Goals as goal

pub loop-index-init : goal.loop-index-init
loop-index-init g c = record {
  first = omega arith;
  few = c.requires.order;
  noted = none_noted g.M.RecordedMachine.stands c.args.machine.now c.args.shown c.args.from c.args.values.now.items;
}

pub loop-index-preserved : goal.loop-index-preserved
loop-index-preserved g c = record {
  first = omega (arith, c.loop-index.invariant.first);
  few = omega (arith, c.loop-index-test.true);
  noted = one_noted g.M.RecordedMachine.stands c.args.machine.now c.args.shown c.args.from c.loop-index.index c.args.values.now.items c.loop-index.values.items c.push.new.self.items _
      c.loop-index.invariant.first c.in_ok-push.ensures.items refl c.word.ensures c.loop-index.invariant.noted;
}
