use Rattle.std.proofs.Common.{◌∙◌, ap}
use Rattle.lane_counts.specs.Naming.{name_at}
use Rattle.lane_counts.proofs.Standing.{kept}
use Rattle.lane_counts.proofs.tally.Tally.enter.Goals as goal

pub returns-clause-frames : goal.returns-clause-frames
returns-clause-frames c functions is =
    let old = c.args.self.now in
    let put = c.in_ok-enter.ensures.frames in (
      old.frames.lasts.items,
      put.0,
      put.1,
      ap (name_at c.number_of.new.self) put.2 ∙ c.in_ok-number.ensures.named,
      kept old.names c.number_of.new.self c.in_ok-number.ensures.kept old.frames.lasts.items functions is,
    )
