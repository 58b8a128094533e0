use Rattle.std.proofs.Common.{subst}
use Rattle.debug_traits.specs.Beginnings.{with_events}
use Rattle.whole_runs.proofs.whole_run.WholeRun.begin_by.Goals as goal

pub returns-clause-stands : goal.returns-clause-stands
returns-clause-stands g c s d there none =
    c.of_start.ensures.stands s d there none (subst (λ events. g.M.BeginsAgain.copies c.args.inner c.in_ok-start.start.items s (with_events events 0 0 d)) none (c.in_ok-start.ensures.moment s d there))
