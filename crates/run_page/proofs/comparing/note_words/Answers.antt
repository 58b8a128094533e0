use Rattle.std.proofs.Common.{◌≡◌, ◌+◌, ◌∷◌, [], ◌++◌, ◌∙◌, sym, ap, subst, take, length, get_or, arith}
use Rattle.std.proofs.lemmas.List.{length-take-le, take_more, take_all}
use Rattle.run_page.specs.Rows.{Adds, IsNewWord}
use Rattle.run_page.proofs.NewWords.{new_word, same_word}
use Rattle.run_page.proofs.comparing.note_words.Goals as goal
use Rattle.run_page.proofs.comparing.note_words.Goals.{then-not-has_word+in_ok-push, else-not-has_word}

pub returns : goal.returns
returns c = subst (λ xs. Adds (IsNewWord c.args.variable c.args.old.now xs) c.args.changes.now.items c.loop-part.changes.items) (take_all c.loop-part.part c.args.new.now c.loop-part-test.false) c.loop-part.invariant

pub loop-part-preserved : goal.loop-part-preserved
loop-part-preserved c =
    let new = c.args.new.now in
    let part = c.loop-part.part in
    let word = get_or new part 0 in
    let done = take part new in
    let long : length done ≡ part = length-take-le part new (omega (arith, c.loop-part-test.true)) in
    let step : take (part + 1) new ≡ done ++ word ∷ [] = take_more new part 0 c.loop-part-test.true in
    subst (λ words. Adds (IsNewWord c.args.variable c.args.old.now words) c.args.changes.now.items c.if-not-has_word.changes.items) (sym step) (elim c.if-not-has_word.branch [
      | then-not-has_word+in_ok-push w ↦
          new_word c.args.variable c.args.old.now done part word c.args.changes.now.items c.loop-part.changes.items c.if-not-has_word.changes.items long
          (λ is. cc (c.has_word.ensures.1 is, w.if-not-has_word.true)) (ap (λ x. x.items) w.changes-is ∙ w.in_ok-push.ensures.items) c.loop-part.invariant
      | else-not-has_word w ↦
          subst (λ changes. Adds (IsNewWord c.args.variable c.args.old.now (done ++ word ∷ [])) c.args.changes.now.items changes.items) (sym w.changes-is)
          (same_word c.args.variable c.args.old.now done part word c.args.changes.now.items c.loop-part.changes.items long (c.has_word.ensures.0 w.if-not-has_word.false) c.loop-part.invariant)
    ])
