use Rattle.std.proofs.Common.{refl, subst, sym}
use Rattle.debug_traits.specs.Beginnings.{with_events}
use Rattle.whole_runs.specs.Runs.{StandsWhole}
use Rattle.whole_runs.proofs.TakenBack.{shown_same}
use Rattle.whole_runs.proofs.machine.WholeRunRecordedMachine.word.Goals as goal

pub returns : goal.returns
returns g c s d v whole is below =
    let here = subst (λ run. StandsWhole g.M.RecordedMachine.stands g.M.BeginsAgain.copies run s d) (sym c.self.view_is) whole in
    let (kept, history, there) = here.there in
    let e = with_events d.events kept history d in
    c.word.ensures s e v there (shown_same s d e v c.args.shown refl is) below
