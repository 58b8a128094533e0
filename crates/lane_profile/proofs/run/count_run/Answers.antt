use Rattle.std.proofs.Common.{◌∙◌, sym, subst, arith}
use Rattle.gang_model.specs.Debugger.Debugger.{now}
use Rattle.lane_meetings.specs.Pending.{Fits}
use Rattle.lane_profile.proofs.Left.{fits_run}
use Rattle.lane_profile.proofs.run.count_run.Goals as goal

pub returns-clause-meetings : goal.returns-clause-meetings
returns-clause-meetings g c s d st =
    let counted = c.in_ok-tally.ensures in
    record {
      counts = λ measure chosen.
          let comes = counted.meetings s d st measure chosen in
          c.in_ok-finish.ensures.counts measure chosen (subst Fits (sym comes) (fits_run s.program c.args.most_steps (now s d) (omega arith) measure chosen)) ∙ comes;
      distinct = c.in_ok-finish.ensures.distinct counted.distinct;
    }
