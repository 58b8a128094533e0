use Rattle.std.proofs.Common.{◌≡◌, false, refl, subst, sym}
use Rattle.undo_log.specs.declared.timeline.Undone.TheVariants as undone
use Rattle.debug_traits.specs.Machines.{RecordsWords}
use Rattle.whole_runs.specs.declared.notes.NotedPoke.{NotedPoke}
use Rattle.whole_runs.specs.Histories.{history_of}
use Rattle.whole_runs.specs.Notes.{one_poke}
use Rattle.whole_runs.specs.NotesViews.{noted_of}
use Rattle.whole_runs.specs.Pokes.{PokesIn}
use Rattle.whole_runs.specs.Runs.{StandsWhole, whole_of}
use Rattle.whole_runs.proofs.DoneAgain.{surely}
use Rattle.whole_runs.proofs.NoWords.{poke_words}
use Rattle.whole_runs.proofs.WholeLaws.{poked, same_noted}
use Rattle.whole_runs.proofs.whole_run.WholeRun.set_noted.Goals as goal

pub returns-clause-poke : goal.returns-clause-poke
returns-clause-poke g c s d v whole is part =
    let stands = g.M.RecordedMachine.stands in
    let copies = g.M.BeginsAgain.copies in
    let m = c.self.inside in
    let run = whole_of m.inner (noted_of m.notes) m.start.items m.copies.all.items m.copies.plan.most m.is_stale m.moves.count in
    let here = subst (λ run. StandsWhole stands copies run s d) (sym c.self.view_is) whole in
    let fresh = subst (λ run. run.is_stale ≡ false) (sym c.self.view_is) c.requires in
    let new = c.poke_in.new.machine in
    let notes_are = same_noted (noted_of c.note_poke.new.self) (one_poke c.args.depth c.args.shown c.args.at c.args.word (noted_of m.notes)) c.in_ok-note_poke.ensures.pokes c.in_ok-note_poke.ensures.steps c.in_ok-note_poke.ensures.kept c.in_ok-note_poke.ensures.limit in
    subst (λ notes. PokesIn c.args.depth (StandsWhole stands copies) s d v c.args.shown c.args.at c.args.word (whole_of new notes m.start.items m.copies.all.items m.copies.plan.most m.is_stale m.moves.count)) (sym notes_are)
    (poked stands copies run s d here new (λ words s d copy. g.met.M.BeginsAgain.copies_so _ _ words s d c.poke_in.ensures.run copy) m.moves.count fresh c.args.depth v c.args.shown c.args.at c.args.word is part
    (λ s d v there shown part. surely stands c.args.depth s d v c.args.shown c.args.at c.args.word c.poke_in.result new (λ e. g.met.M.PokesSurely.pokes_surely (c.poke_in.ensures.memory e)) (c.poke_in.ensures.poke s d v there shown part)))

pub returns-clause-words : goal.returns-clause-words
returns-clause-words g c =
    let m = c.self.inside in
    let new = c.poke_in.new.machine in
    let note : NotedPoke = record { steps = m.notes.steps; depth = c.args.depth; shown = c.args.shown; at = c.args.at; word = c.args.word } in
    let notes_are = same_noted (noted_of c.note_poke.new.self) (one_poke c.args.depth c.args.shown c.args.at c.args.word (noted_of m.notes)) c.in_ok-note_poke.ensures.pokes c.in_ok-note_poke.ensures.steps c.in_ok-note_poke.ensures.kept c.in_ok-note_poke.ensures.limit in
    let run = whole_of m.inner (noted_of m.notes) m.start.items m.copies.all.items m.copies.plan.most m.is_stale m.moves.count in
    let after = whole_of new (noted_of c.note_poke.new.self) m.start.items m.copies.all.items m.copies.plan.most m.is_stale m.moves.count in
    subst (λ run. RecordsWords undone.Poke (history_of run) (history_of after)) c.self.view_is
    (subst (λ notes. RecordsWords undone.Poke (history_of run) (history_of (whole_of new notes m.start.items m.copies.all.items m.copies.plan.most m.is_stale m.moves.count))) (sym notes_are) (poke_words (noted_of m.notes) note refl))
