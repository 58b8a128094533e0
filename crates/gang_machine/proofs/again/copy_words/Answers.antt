use Rattle.std.proofs.Common.{◌<◌, ◌≤◌, ◌++◌, ◌∷◌, [], ◌∙◌, ap, arith, refl, length, sym, take}
use Rattle.std.proofs.lemmas.List.{length-set, take_all, take_more, take_more_set}
use Rattle.gang_machine.proofs.again.copy_words.Goals as goal

pub loop-index-init : goal.loop-index-init
loop-index-init g c = record { long = c.requires; front = refl }

pub loop-index-preserved : goal.loop-index-preserved
loop-index-preserved g c =
    let words = (g.T.Timeline.history c.args.words.now.store.timeline).words in
    let i = c.loop-index.index in
    let long = c.loop-index.invariant.long in
    let here : i < length c.loop-index.copy = omega (arith, c.loop-index-test.true, c.requires, long) in
    let inside : i < length words = omega (arith, here, long) in record {
      long = length-set c.loop-index.copy i c.word.result ∙ long;
      front = take_more_set c.loop-index.copy i c.word.result here ∙ ap (λ xs. xs ++ c.word.result ∷ []) c.loop-index.invariant.front
          ∙ ap (λ x. take i words ++ x ∷ []) c.word.ensures ∙ sym (take_more words i 0 inside);
    }

pub returns : goal.returns
returns g c =
    let words = (g.T.Timeline.history c.args.words.now.store.timeline).words in
    let long = c.loop-index.invariant.long in
    let past : length words ≤ c.loop-index.index = omega (arith, c.loop-index-test.false, c.requires) in
    let past_copy : length c.loop-index.copy ≤ c.loop-index.index = omega (arith, past, long) in
    sym (take_all c.loop-index.index c.loop-index.copy past_copy) ∙ c.loop-index.invariant.front ∙ take_all c.loop-index.index words past
