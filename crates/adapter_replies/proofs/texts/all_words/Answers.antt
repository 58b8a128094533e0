use Rattle.std.proofs.Common.{◌<◌, ◌∷◌, [], ◌++◌, ◌∙◌, sym, ap, length, take, add-one, arith}
use Rattle.std.proofs.Math.Seq.{take-suc}
use Rattle.std.proofs.lemmas.List.{take_all}
use Rattle.adapter_replies.specs.Variables.{words_at}
use Rattle.adapter_replies.proofs.texts.all_words.Goals as goal

pub loop-index-preserved : goal.loop-index-preserved
loop-index-preserved g c s d v st shown =
    let words = words_at s d c.args.depth v in
    let index = c.loop-index.index in
    let inside : index < length words = omega (arith, shown.count, c.loop-index-test.true) in
    c.in_ok-push.ensures.items
    ∙ ap (λ old. old ++ c.word_at.result ∷ []) (c.loop-index.invariant s d v st shown)
    ∙ ap (λ word. take index words ++ word ∷ []) (c.word_at.ensures s d v st shown c.loop-index-test.true)
    ∙ sym (take-suc words index 0 inside)
    ∙ ap (λ n. take n words) (sym (add-one index))

pub returns : goal.returns
returns g c s d v st shown =
    c.loop-index.invariant s d v st shown ∙ take_all c.loop-index.index (words_at s d c.args.depth v) (omega (arith, shown.count, c.loop-index-test.false))
