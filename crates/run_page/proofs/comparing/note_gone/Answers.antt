use Rattle.std.proofs.Common.{◌≡◌, ◌+◌, ◌∷◌, [], ◌++◌, ◌∙◌, sym, ap, subst, take}
use Rattle.std.proofs.lemmas.List.{take_all, take_more}
use Rattle.run_page.specs.Rows.{Adds, IsGoneBetween}
use Rattle.run_page.proofs.NewWords.{found_none, found_some, one_gone, one_there}
use Rattle.run_page.proofs.comparing.note_gone.Goals as goal
use Rattle.run_page.proofs.comparing.note_gone.Goals.{then-is_none+in_ok-push, else-is_none}

pub returns : goal.returns
returns c = subst (λ xs. Adds (IsGoneBetween xs c.args.now.now) c.args.changes.now.items c.loop-index.changes.items) (take_all c.loop-index.index c.args.before.now c.loop-index-test.false) c.loop-index.invariant

pub loop-index-preserved : goal.loop-index-preserved
loop-index-preserved c =
    let before = c.args.before.now in
    let now = c.args.now.now in
    let index = c.loop-index.index in
    let row = c.index-before-index.result in
    let done = take index before in
    let first = c.args.changes.now.items in
    let step : take (index + 1) before ≡ done ++ row ∷ [] = take_more before index row c.loop-index-test.true ∙ ap (λ r. done ++ r ∷ []) (sym c.index-before-index.is) in
    subst (λ rows. Adds (IsGoneBetween rows now) first c.if-is_none.changes.items) (sym step) (elim c.if-is_none.branch [
      | then-is_none+in_ok-push w ↦
          one_gone now done row first c.loop-index.changes.items _ (found_none row.variable now c.words_of.result c.is_none.result c.is_none.ensures w.if-is_none.true c.words_of.ensures) (ap (λ x. x.items) w.changes-is ∙ w.in_ok-push.ensures.items) c.loop-index.invariant
      | else-is_none w ↦
          let there = found_some row.variable now c.words_of.result c.is_none.result c.is_none.ensures w.if-is_none.false c.words_of.ensures in
          subst (λ changes. Adds (IsGoneBetween (done ++ row ∷ []) now) first changes.items) (sym w.changes-is) (one_there now done row there.0 first c.loop-index.changes.items there.1 c.loop-index.invariant)
    ])
