use Rattle.std.proofs.Common.{◌≡◌, ◌∙◌, ap, subst}
use Rattle.undo_log.specs.History.{limited}
use Rattle.whole_runs.specs.Histories.{history_at, history_of}
use Rattle.whole_runs.specs.Notes.{events_of, kept_to}
use Rattle.whole_runs.specs.NotesViews.{noted_of}
use Rattle.whole_runs.proofs.NoWords.{limit_words}
use Rattle.whole_runs.proofs.WholeLaws.{same_noted}
use Rattle.whole_runs.proofs.machine.WholeRunRecordedMachine.set_limit.Goals as goal

pub returns-clause-words : goal.returns-clause-words
returns-clause-words g c =
    let m = c.self.inside in
    let new = noted_of c.set_limit.new.self in
    let notes_are = same_noted new (kept_to c.args.limit (noted_of m.notes)) (ap (λ v. v.items) c.set_limit.ensures.pokes) c.set_limit.ensures.steps c.set_limit.ensures.kept c.set_limit.ensures.limit in
    subst (λ run. history_at new.kept new.limit (events_of new.pokes new.steps) ≡ limited c.args.limit (history_of run)) c.self.view_is
    (ap (λ n. history_at n.kept n.limit (events_of n.pokes n.steps)) notes_are ∙ limit_words m.notes.kept m.notes.limit c.args.limit (events_of m.notes.pokes.items m.notes.steps))
