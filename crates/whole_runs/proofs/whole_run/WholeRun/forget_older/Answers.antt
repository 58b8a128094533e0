use Rattle.std.proofs.Common.{◌≡◌, ◌≤◌, arith, rules, subst, sym}
use Rattle.std.specs.Vec.{with_items}
use Rattle.std.proofs.lemmas.List.{with_items_is}
use Rattle.debug_traits.specs.Beginnings.{with_events}
use Rattle.whole_runs.specs.Histories.{history_of}
use Rattle.whole_runs.specs.Notes.{last_steps}
use Rattle.whole_runs.specs.NotesViews.{noted_of}
use Rattle.whole_runs.specs.Runs.{StandsWhole, whole_of}
use Rattle.whole_runs.proofs.NoWords.{same_history}
use Rattle.whole_runs.proofs.WholeLaws.{restarted, same_noted}
use Rattle.whole_runs.proofs.whole_run.WholeRun.forget_older.Goals as goal

pub returns-clause-whole : goal.returns-clause-whole
returns-clause-whole g c s d whole =
    let stands = g.M.RecordedMachine.stands in
    let copies = g.M.BeginsAgain.copies in
    let m = c.self.inside in
    let run = whole_of m.inner (noted_of m.notes) m.start.items m.copies.all.items m.copies.plan.most m.is_stale m.moves.count in
    let here = subst (λ run. StandsWhole stands copies run s d) (sym c.self.view_is) whole in
    let less = subst (λ run. run.notes.limit ≤ run.notes.steps) (sym c.self.view_is) c.requires in
    let left = m.notes.limit in
    let begins = subst (λ words. copies m.inner words s (with_events here.older 0 0 d)) (sym c.deref_mut.ensures.value) here.begins in
    let (there, moved) = c.move_start.ensures.moved s d here.older less begins here.are_noted here.have_gone in
    let start_is : (with_items m.start c.move_start.new.start).items ≡ c.move_start.new.start = first_of (search rules, search (rules, with_items_is)) in
    let notes_are = same_noted (noted_of c.forget_older.new.self) (last_steps left (noted_of m.notes)) c.forget_older.ensures.pokes c.forget_older.ensures.steps c.forget_older.ensures.kept c.forget_older.ensures.limit in
    let machine = c.move_start.new.machine in
    let all = c.clear.new.self.all.items in
    let most = c.clear.new.self.plan.most in
    let first = restarted stands copies run s d here machine c.move_start.new.start left all most c.clear.ensures.all less there moved in
    let second = subst (λ start. StandsWhole stands copies (whole_of machine (last_steps left (noted_of m.notes)) start all most m.is_stale m.moves.count) s d) (sym start_is) first in
    subst (λ notes. StandsWhole stands copies (whole_of machine notes (with_items m.start c.move_start.new.start).items all most m.is_stale m.moves.count) s d) (sym notes_are) second

pub returns-clause-history : goal.returns-clause-history
returns-clause-history g c =
    let m = c.self.inside in
    let less = subst (λ run. run.notes.limit ≤ run.notes.steps) (sym c.self.view_is) c.requires in
    let most = m.notes.most in
    let steps = c.forget_older.ensures.steps in
    let new = noted_of c.forget_older.new.self in
    let same = same_history new (noted_of m.notes) c.forget_older.ensures.kept c.forget_older.ensures.limit (omega (arith, steps, most)) (omega (arith, less, most)) in
    subst (λ run. history_of (whole_of c.move_start.new.machine new m.start.items m.copies.all.items m.copies.plan.most m.is_stale m.moves.count) ≡ history_of run) c.self.view_is same
