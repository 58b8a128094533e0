use Rattle.std.proofs.Common.{◌≡◌, suc, ◌+◌, take, ◌<◌, ◌++◌, ◌∷◌, [], sym, ap, ◌∙◌, arith, length}
use Rattle.std.proofs.Math.Seq.{take-suc}
use Rattle.gang_model.specs.Debugger.Debugger.{now, shown_words}
use Rattle.debug_session.specs.Sessions.{bare}
use Rattle.debug_traits.specs.Frames.{state_at}
use Rattle.conditional_stops.proofs.Sighted.{take_within}
use Rattle.conditional_stops.proofs.sights.first_words.Goals as goal

pub loop-index-preserved : goal.loop-index-preserved
loop-index-preserved g c = record {
  long = omega (arith, c.push.ensures.len, c.loop-index.invariant.long);
  words = λ s d v st shown.
      let words = shown_words (state_at c.args.depth (now s d)) v in
      let here : c.loop-index.index < c.args.shown.count = omega (arith, c.loop-index-test.true, c.min-index-end.ensures) in
      let inside : c.loop-index.index < length words = omega (arith, here, shown.count) in
      let one : suc c.loop-index.index ≡ c.loop-index.index + 1 = omega arith in
      c.push.ensures.items ∙ ap (λ xs. xs ++ c.word_at.result ∷ []) (c.loop-index.invariant.words s d v st shown)
      ∙ ap (λ x. take c.loop-index.index words ++ x ∷ []) (c.word_at.ensures s (bare d) v st shown here) ∙ sym (take-suc words c.loop-index.index 0 inside) ∙ ap (λ n. take n words) one;
}

pub returns : goal.returns
returns g c s d v st shown =
    c.loop-index.invariant.words s d v st shown
    ∙ take_within c.loop-index.index c.args.shown.count (shown_words (state_at c.args.depth (now s d)) v) shown.count (omega (arith, c.loop-index-test.false, c.loop-index.auto.index-end, c.min-index-end.ensures))
