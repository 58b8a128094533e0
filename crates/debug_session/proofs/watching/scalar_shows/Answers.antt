use Rattle.std.proofs.Common.{◌≡◌, suc, ◌+◌, ◌<◌, ◌≤◌, ◌++◌, ◌∷◌, [], sym, ap, ◌∙◌, arith, length, get_or, take}
use Rattle.std.proofs.Math.Seq.{take-suc}
use Rattle.std.proofs.lemmas.List.{take_all}
use Rattle.gang_model.specs.Debugger.Debugger.{now, shown_words}
use Rattle.gang_model.specs.Source.Names.{same_text}
use Rattle.gang_model.proofs.SameTexts.{same_text-refl}
use Rattle.debug_session.specs.Sessions.{bare}
use Rattle.debug_session.proofs.Bare.{to_bare}
use Rattle.debug_session.proofs.Watches.{not_same}
use Rattle.debug_session.proofs.watching.scalar_shows.Goals as goal

pub returns-then-noted-shown : goal.returns-then-noted-shown
returns-then-noted-shown g c s d v st shown =
    not_same c.args.noted.now (shown_words (now s d) v) (λ e. omega (arith, c.if-noted-shown.true, ap length e, shown.count))

pub returns-then-word-old : goal.returns-then-word-old
returns-then-word-old g c s d v st shown =
    let inside : c.loop-index.index < c.args.shown.count = omega (arith, c.loop-index-test.true, c.if-noted-shown.false) in
    let word = c.word.ensures s (bare d) v st (to_bare s d v c.args.shown shown) inside in
    not_same c.args.noted.now (shown_words (now s d) v) (λ e. c.if-word-old.true (word ∙ sym (ap (λ xs. get_or xs c.loop-index.index 0) e)))

pub loop-index-preserved : goal.loop-index-preserved
loop-index-preserved g c s d v st shown =
    let words = shown_words (now s d) v in
    let noted = c.args.noted.now in
    let i = c.loop-index.index in
    let one : suc i ≡ i + 1 = omega arith in
    let inside : i < c.args.shown.count = omega (arith, c.loop-index-test.true, c.if-noted-shown.false) in
    let there : i < length words = omega (arith, inside, shown.count) in
    let word = c.word.ensures s (bare d) v st (to_bare s d v c.args.shown shown) inside in
    ap (λ n. take n noted) (sym one) ∙ take-suc noted i 0 c.loop-index-test.true
    ∙ ap (λ xs. xs ++ get_or noted i 0 ∷ []) (c.loop-index.invariant s d v st shown)
    ∙ ap (λ x. take i words ++ x ∷ []) (sym c.if-word-old.false ∙ word)
    ∙ sym (take-suc words i 0 there) ∙ ap (λ n. take n words) one

pub returns : goal.returns
returns g c s d v st shown =
    let words = shown_words (now s d) v in
    let noted = c.args.noted.now in
    let i = c.loop-index.index in
    let past : length words ≤ i = omega (arith, c.loop-index-test.false, c.if-noted-shown.false, shown.count) in
    let same : noted ≡ words = sym (take_all i noted c.loop-index-test.false) ∙ c.loop-index.invariant s d v st shown ∙ take_all i words past in
    sym (ap (λ xs. same_text xs words) same ∙ same_text-refl words)
