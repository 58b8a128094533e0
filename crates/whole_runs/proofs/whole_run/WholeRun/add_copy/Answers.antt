use Rattle.std.proofs.Common.{◌≡◌, arith, length, refl, subst, sym}
use Rattle.whole_runs.specs.declared.copies.CopiedMoment.{CopiedMoment}
use Rattle.whole_runs.specs.NotesViews.{noted_of}
use Rattle.whole_runs.specs.Runs.{StandsWhole, whole_of}
use Rattle.whole_runs.proofs.WholeLaws.{another, have_another}
use Rattle.whole_runs.proofs.whole_run.WholeRun.add_copy.Goals as goal

pub invariant_of-self : goal.invariant_of-self
invariant_of-self g c =
    let m = c.self.inside in
    have_another g.M.BeginsAgain.can_have m.inner m.start.items m.copies.all.items (record { pokes = c.len.result; steps = m.notes.steps; words = c.in-Ok.words }) c.keep.new.self.all.items c.in-Ok.ensures.words c.keep.ensures.all c.self.invariant

pub returns-in-Ok-clause-whole : goal.returns-in-Ok-clause-whole
returns-in-Ok-clause-whole g c s d whole =
    let stands = g.M.RecordedMachine.stands in
    let copies = g.M.BeginsAgain.copies in
    let m = c.self.inside in
    let run = whole_of m.inner (noted_of m.notes) m.start.items m.copies.all.items m.copies.plan.most m.is_stale m.moves.count in
    let here = subst (λ run. StandsWhole stands copies run s d) (sym c.self.view_is) whole in
    let last : CopiedMoment = record { pokes = c.len.result; steps = m.notes.steps; words = c.in-Ok.words } in
    let place : c.len.result ≡ length m.notes.pokes.items = omega (arith, c.len.ensures) in
    another stands copies run s d here last place refl c.in-Ok.ensures.moment c.keep.new.self.all.items c.keep.new.self.plan.most c.keep.ensures.all
