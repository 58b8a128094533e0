use Rattle.std.proofs.Common.{subst, sym}
use Rattle.debug_traits.specs.Beginnings.{with_events}
use Rattle.whole_runs.specs.Runs.{StandsWhole}
use Rattle.whole_runs.proofs.machine.WholeRunRecordedMachine.may_have_set_file.Goals as goal

pub returns : goal.returns
returns g c none s d whole =
    let here = subst (λ run. StandsWhole g.M.RecordedMachine.stands g.M.BeginsAgain.copies run s d) (sym c.self.view_is) whole in
    let (kept, history, there) = here.there in
    c.may_have_set_file.ensures none s (with_events d.events kept history d) there
