use Rattle.std.proofs.Common.{◌≡◌, ◌∙◌, ◌+◌, ◌-◌, ◌<◌, ◌≤◌, ◌++◌, ◌∷◌, [], drop, get_or, length, take, ap, sym, arith}
use Rattle.std.proofs.lemmas.List.{get_or-drop, length-drop, length_push, take_more}
use Rattle.gang_model.specs.Debugger.Debugger.{now, shown_words}
use Rattle.debug_traits.specs.Frames.{state_at}
use Rattle.prompt_texts.proofs.told.words_at.Goals as goal

pub loop-index-preserved : goal.loop-index-preserved
loop-index-preserved g c =
    let index = c.loop-index.index in
    let from = c.args.from in
    let so_far = c.loop-index.words.items in (
      omega (arith, ap length c.in_ok-push.ensures.items ∙ length_push so_far c.word_at.result, c.loop-index.invariant.0),
      omega (arith, c.loop-index-test.true),
      λ ordered. omega (arith, c.loop-index-test.true),
      λ s d v st is within.
          let words = shown_words (state_at c.args.depth (now s d)) v in
          let behind = drop from words in
          let begun : from ≤ index = omega (arith, c.loop-index.invariant.0) in
          let inside : index - from < length behind = omega (arith, length-drop from words, is.count, within, c.loop-index-test.true, begun) in
          let next : index + 1 - from ≡ index - from + 1 = omega (arith, begun) in
          let there : from + (index - from) ≡ index = omega (arith, begun) in
          let word = c.word_at.ensures s d v st is (omega (arith, within, c.loop-index-test.true)) ∙ ap (λ i. get_or words i 0) (sym there) ∙ sym (get_or-drop from words (index - from) 0) in
          c.in_ok-push.ensures.items ∙ ap (λ xs. xs ++ c.word_at.result ∷ []) (c.loop-index.invariant.3 s d v st is within)
          ∙ ap (λ x. take (index - from) behind ++ x ∷ []) word ∙ sym (take_more behind (index - from) 0 inside) ∙ ap (λ n. take n behind) (sym next),
    )

pub returns : goal.returns
returns g c = record {
  words = λ s d v st is ordered within.
      let words = shown_words (state_at c.args.depth (now s d)) v in
      let end : c.loop-index.index ≡ c.args.to = omega (arith, c.loop-index.invariant.2 ordered, c.loop-index-test.false) in
      c.loop-index.invariant.3 s d v st is within ∙ ap (λ n. take (n - c.args.from) (drop c.args.from words)) end;
  few = omega (arith, c.loop-index.invariant.0, c.loop-index.invariant.1);
}
