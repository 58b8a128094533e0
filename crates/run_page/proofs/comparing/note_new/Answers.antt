use Rattle.std.proofs.Common.{◌≡◌, ◌+◌, ◌∷◌, [], ◌++◌, ◌∙◌, sym, ap, subst, take}
use Rattle.std.proofs.lemmas.List.{take_all, take_more}
use Rattle.run_page.specs.Rows.{Adds, IsNewIn, IsNewWord}
use Rattle.run_page.proofs.NewWords.{row_new, words_found}
use Rattle.run_page.proofs.comparing.note_new.Goals as goal
use Rattle.run_page.proofs.comparing.note_new.Goals.{in-Some, in-None}

pub returns : goal.returns
returns c consistent = subst (λ xs. Adds (IsNewIn c.args.before.now xs) c.args.changes.now.items c.loop-index.changes.items) (take_all c.loop-index.index c.args.now.now c.loop-index-test.false) (c.loop-index.invariant consistent)

pub loop-index-preserved : goal.loop-index-preserved
loop-index-preserved c consistent =
    let before = c.args.before.now in
    let now = c.args.now.now in
    let index = c.loop-index.index in
    let row = c.index-now-index.result in
    let done = take index now in
    let first = c.args.changes.now.items in
    let middle = c.loop-index.changes.items in
    let last = c.note_words.new.changes.items in
    let found = c.words_of.result in
    let step : take (index + 1) now ≡ done ++ row ∷ [] = take_more now index row c.loop-index-test.true ∙ ap (λ r. done ++ r ∷ []) (sym c.index-now-index.is) in
    let old : c.match-words_of.old.now ≡ words_found found = elim c.match-words_of.branch [
      | in-Some w ↦ ap (λ o. o.now) w.old-is ∙ sym (ap words_found w.in-Some.is)
      | in-None w ↦ ap (λ o. o.now) w.old-is ∙ sym (ap words_found w.in-None.is)
    ] in
    let noted : Adds (IsNewWord row.variable (words_found found) row.words.items) middle last =
    subst (λ words. Adds (IsNewWord row.variable (words_found found) words) middle last) c.as_slice.ensures.value
    (subst (λ words. Adds (IsNewWord row.variable words c.as_slice.result.now) middle last) old c.in_ok-note_words.ensures) in
    subst (λ rows. Adds (IsNewIn before rows) first last) (sym step) (row_new before consistent done row found first middle last c.words_of.ensures (c.loop-index.invariant consistent) noted)
