use Rattle.std.proofs.Common.{ap, refl, sym, subst}
use Rattle.lane_counts.specs.Pending.{IsQuiet}
use Rattle.lane_counts.specs.Steps.{active}
use Rattle.lane_counts.proofs.Parting.{quiet_step}
use Rattle.lane_counts.proofs.frames.Frames.enter.Goals as goal

pub returns-clause-quiet : goal.returns-clause-quiet
returns-clause-quiet c = subst IsQuiet (sym c.in_ok-push.ensures.items) (quiet_step c.args.self.now.lasts.items _ (ap active (c.none.ensures 4)) c.requires)

pub returns-clause-frames : goal.returns-clause-frames
returns-clause-frames c = (_, c.in_ok-push.ensures.items, refl)
