use Rattle.std.proofs.Common.{◌≡◌, ◌∙◌, subst, sym}
use Rattle.undo_log.specs.History.{steps_in}
use Rattle.whole_runs.specs.Histories.{history_of}
use Rattle.whole_runs.specs.Notes.{events_of}
use Rattle.whole_runs.specs.NotesViews.{noted_of}
use Rattle.whole_runs.specs.Runs.{StandsWhole}
use Rattle.whole_runs.proofs.NoWords.{steps_kept, steps_shown}
use Rattle.whole_runs.proofs.machine.WholeRunRecordedMachine.kept_steps.Goals as goal

pub returns-clause-debugger : goal.returns-clause-debugger
returns-clause-debugger g c s d whole =
    let m = c.self.inside in
    let here = subst (λ run. StandsWhole g.M.RecordedMachine.stands g.M.BeginsAgain.copies run s d) (sym c.self.view_is) whole in
    c.kept_steps.ensures ∙ steps_shown d here.older (noted_of m.notes) here.events here.kept m.notes.noted

pub returns-clause-all : goal.returns-clause-all
returns-clause-all g c =
    let m = c.self.inside in
    subst (λ run. c.kept_steps.result ≡ steps_in (history_of run).past) c.self.view_is (c.kept_steps.ensures ∙ steps_kept m.notes.kept (events_of m.notes.pokes.items m.notes.steps))
