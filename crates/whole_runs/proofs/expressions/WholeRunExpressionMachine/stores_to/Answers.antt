use Rattle.std.proofs.Common.{refl, subst, sym}
use Rattle.debug_traits.specs.Beginnings.{with_events}
use Rattle.whole_runs.specs.Runs.{StandsWhole}
use Rattle.whole_runs.proofs.SeenSame.{shown_at_same}
use Rattle.whole_runs.proofs.expressions.WholeRunExpressionMachine.stores_to.Goals as goal

pub returns : goal.returns
returns g c s d v whole is array =
    let here = subst (λ run. StandsWhole g.M.RecordedMachine.stands g.M.BeginsAgain.copies run s d) (sym c.self.view_is) whole in
    let (kept, history, there) = here.there in
    let e = with_events d.events kept history d in
    c.stores_to.ensures s e v there (shown_at_same s d e refl c.args.depth v c.args.array is) array
