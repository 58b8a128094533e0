use Rattle.lane_picture.specs.declared.picture.PictureEnd.TheVariants.{WriteFault}
use Rattle.lane_picture.proofs.Telling.{drawn}
use Rattle.lane_picture.proofs.picture.draw.Goals as goal

pub returns-in-Ok-clause-drawn : goal.returns-in-Ok-clause-drawn
returns-in-Ok-clause-drawn g c s d st =
    drawn g.M.RecordedMachine.stands s c.args.subject.now.most_steps d c.in_ok-seen.end c.told.result c.see_steps.new.session c.told.ensures.told (c.in_ok-seen.ensures.seen s d st).run

pub returns-clause-drawn : goal.returns-clause-drawn
returns-clause-drawn g c s d st =
    drawn g.M.RecordedMachine.stands s c.args.subject.now.most_steps d c.in_ok-seen.end WriteFault c.see_steps.new.session tt (c.in_ok-seen.ensures.seen s d st).run
