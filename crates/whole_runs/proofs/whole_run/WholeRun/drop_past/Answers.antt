use Rattle.std.proofs.Common.{false, subst, sym}
use Rattle.whole_runs.specs.Copies.{is_within}
use Rattle.whole_runs.specs.NotesViews.{noted_of}
use Rattle.whole_runs.specs.Runs.{StandsWhole, whole_of}
use Rattle.whole_runs.proofs.WholeLaws.{dropped, have_dropped}
use Rattle.whole_runs.proofs.whole_run.WholeRun.drop_past.Goals as goal

pub invariant_of-self : goal.invariant_of-self
invariant_of-self g c =
    let m = c.self.inside in
    have_dropped g.M.BeginsAgain.can_have m.inner m.start.items m.copies.all.items c.drop_past.new.self.all.items (λ c'. is_within m.notes.pokes.items m.notes.steps c'.pokes c'.steps) c.drop_past.ensures.all c.self.invariant

pub returns-clause-whole : goal.returns-clause-whole
returns-clause-whole g c s d whole =
    let stands = g.M.RecordedMachine.stands in
    let copies = g.M.BeginsAgain.copies in
    let m = c.self.inside in
    let run = whole_of m.inner (noted_of m.notes) m.start.items m.copies.all.items m.copies.plan.most m.is_stale m.moves.count in
    let here = subst (λ run. StandsWhole stands copies run s d) (sym c.self.view_is) whole in
    dropped stands copies run s d here c.drop_past.new.self.all.items c.drop_past.new.self.plan.most false c.drop_past.ensures.all
