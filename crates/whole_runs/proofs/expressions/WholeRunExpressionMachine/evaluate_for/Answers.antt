use Rattle.std.proofs.Common.{subst, sym}
use Rattle.debug_traits.specs.Beginnings.{with_events}
use Rattle.whole_runs.specs.Runs.{StandsWhole}
use Rattle.whole_runs.proofs.expressions.WholeRunExpressionMachine.evaluate_for.Goals as goal

pub returns : goal.returns
returns g c s d spot written type rate whole at means =
    let here = subst (λ run. StandsWhole g.M.RecordedMachine.stands g.M.BeginsAgain.copies run s d) (sym c.self.view_is) whole in
    let (kept, history, there) = here.there in
    c.evaluate_for.ensures s (with_events d.events kept history d) spot written type rate there at means
