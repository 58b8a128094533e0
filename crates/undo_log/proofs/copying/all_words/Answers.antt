use Rattle.std.proofs.Common.{◌≡◌, ◌+◌, ◌<◌, ◌≤◌, suc, sym, ap, ◌∙◌, ◌++◌, ◌∷◌, [], arith, take, length, take-suc}
use Rattle.std.proofs.lemmas.List.{take_all}
use Rattle.undo_log.proofs.copying.all_words.Goals as goal

pub loop-index-preserved : goal.loop-index-preserved
loop-index-preserved g c =
    let words = (g.T.Timeline.history c.args.timeline.now).words in
    let i = c.loop-index.index in
    let inside : i < length words = omega (arith, c.loop-index-test.true, c.requires) in
    let one : suc i ≡ i + 1 = omega arith in
    c.in_ok-push.ensures.items ∙ ap (λ xs. xs ++ c.word.result ∷ []) c.loop-index.invariant
    ∙ ap (λ x. take i words ++ x ∷ []) c.word.ensures ∙ sym (take-suc words i 0 inside) ∙ ap (λ n. take n words) one

pub returns : goal.returns
returns g c =
    let words = (g.T.Timeline.history c.args.timeline.now).words in
    let past : length words ≤ c.loop-index.index = omega (arith, c.loop-index-test.false, c.requires) in
    c.loop-index.invariant ∙ take_all c.loop-index.index words past
