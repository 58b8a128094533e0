use Rattle.std.proofs.Common.{◌≡◌, false, subst, sym, ap}
use Rattle.debug_traits.specs.declared.machine.StepEnd.TheVariants as end
use Rattle.debug_traits.specs.Machines.{Steps, StepsWords}
use Rattle.whole_runs.specs.Histories.{history_of}
use Rattle.whole_runs.specs.Notes.{one_step}
use Rattle.whole_runs.specs.NotesViews.{noted_of}
use Rattle.whole_runs.specs.Runs.{StandsWhole, whole_of}
use Rattle.whole_runs.proofs.NoWords.{no_words, step_words}
use Rattle.whole_runs.proofs.WholeLaws.{not_stepped, same_noted, stepped}
use Rattle.whole_runs.proofs.whole_run.WholeRun.go_on.Goals as goal

pub returns-in-Done-clause-step : goal.returns-in-Done-clause-step
returns-in-Done-clause-step g c s d whole =
    let stands = g.M.RecordedMachine.stands in
    let copies = g.M.BeginsAgain.copies in
    let m = c.self.inside in
    let run = whole_of m.inner (noted_of m.notes) m.start.items m.copies.all.items m.copies.plan.most m.is_stale m.moves.count in
    let here = subst (λ run. StandsWhole stands copies run s d) (sym c.self.view_is) whole in
    let fresh = subst (λ run. run.is_stale ≡ false) (sym c.self.view_is) c.requires.fresh in
    let new = c.step-end.new.self in
    let count = c.count_one.new.self.count in
    let notes_are = same_noted (noted_of c.note_step.new.self) (one_step (noted_of m.notes)) (ap (λ v. v.items) c.note_step.ensures.pokes) c.note_step.ensures.steps c.note_step.ensures.kept c.note_step.ensures.limit in
    subst (λ done. Steps (StandsWhole stands copies) s d done (whole_of new (noted_of c.note_step.new.self) m.start.items m.copies.all.items m.copies.plan.most m.is_stale count)) (sym c.in-Done.is)
    (subst (λ notes. Steps (StandsWhole stands copies) s d end.Done (whole_of new notes m.start.items m.copies.all.items m.copies.plan.most m.is_stale count)) (sym notes_are)
    (stepped stands copies run s d here new (λ words s d copy. g.met.M.BeginsAgain.copies_so _ _ words s d c.step-end.ensures.run copy) count fresh c.in-Done.ensures.step))

pub returns-in-Done-clause-words : goal.returns-in-Done-clause-words
returns-in-Done-clause-words g c =
    let m = c.self.inside in
    let new = c.step-end.new.self in
    let count = c.count_one.new.self.count in
    let notes_are = same_noted (noted_of c.note_step.new.self) (one_step (noted_of m.notes)) (ap (λ v. v.items) c.note_step.ensures.pokes) c.note_step.ensures.steps c.note_step.ensures.kept c.note_step.ensures.limit in
    let run = whole_of m.inner (noted_of m.notes) m.start.items m.copies.all.items m.copies.plan.most m.is_stale m.moves.count in
    let after = whole_of new (noted_of c.note_step.new.self) m.start.items m.copies.all.items m.copies.plan.most m.is_stale count in
    subst (λ run. StepsWords (history_of run) c.step-end.result (history_of after)) c.self.view_is
    (subst (λ done. StepsWords (history_of run) done (history_of after)) (sym c.in-Done.is)
    (subst (λ notes. StepsWords (history_of run) end.Done (history_of (whole_of new notes m.start.items m.copies.all.items m.copies.plan.most m.is_stale count))) (sym notes_are) (step_words (noted_of m.notes))))

pub returns-in_default-clause-step : goal.returns-in_default-clause-step
returns-in_default-clause-step g c s d whole =
    let stands = g.M.RecordedMachine.stands in
    let copies = g.M.BeginsAgain.copies in
    let m = c.self.inside in
    let run = whole_of m.inner (noted_of m.notes) m.start.items m.copies.all.items m.copies.plan.most m.is_stale m.moves.count in
    let here = subst (λ run. StandsWhole stands copies run s d) (sym c.self.view_is) whole in
    not_stepped stands copies run s d here c.step-end.new.self (λ words s d copy. g.met.M.BeginsAgain.copies_so _ _ words s d c.step-end.ensures.run copy) c.count_one.new.self.count
    c.step-end.result c.in_default.not-Done c.step-end.ensures.step

pub returns-in_default-clause-words : goal.returns-in_default-clause-words
returns-in_default-clause-words g c =
    let m = c.self.inside in
    let after = whole_of c.step-end.new.self (noted_of m.notes) m.start.items m.copies.all.items m.copies.plan.most m.is_stale c.count_one.new.self.count in
    subst (λ run. StepsWords (history_of run) c.step-end.result (history_of after)) c.self.view_is (no_words (history_of after) c.step-end.result c.in_default.not-Done)
