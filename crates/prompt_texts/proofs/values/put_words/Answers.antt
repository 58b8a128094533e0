use Rattle.std.proofs.Common.{◌<◌, sym, subst, length, arith}
use Rattle.std.proofs.lemmas.List.{take_all}
use Rattle.gang_model.specs.Debugger.Debugger.{now, shown_words}
use Rattle.prompt_texts.specs.Forms.{shown_text, values_text}
use Rattle.prompt_texts.specs.Shown.{Puts}
use Rattle.prompt_texts.proofs.Putting.{flat_more, puts_both}
use Rattle.prompt_texts.proofs.values.put_words.Goals as goal

pub loop-index-preserved : goal.loop-index-preserved
loop-index-preserved g c s d v st is =
    let digits = c.args.digits in
    let type = c.args.shown.value_type in
    let words = shown_words (now s d) v in
    let index = c.loop-index.index in
    let written = g.O.AnswerWriter.written in
    let old = c.args.page.now in
    let middle = c.loop-index.page in
    let new = c.put_word.new.page in
    let inside : index < length words = omega (arith, is.count, c.loop-index-test.true) in
    let one = subst (λ w. Puts (shown_text digits type w) middle.has_failed new.has_failed (written middle.writer) (written new.writer)) (c.word.ensures s d v st is c.loop-index-test.true) c.put_word.ensures in
    subst (λ t. Puts t old.has_failed new.has_failed (written old.writer) (written new.writer)) (sym (flat_more (shown_text digits type) words index 0 inside))
    (puts_both _ _ _ _ _ _ _ _ (c.loop-index.invariant s d v st is) one)

pub returns : goal.returns
returns g c s d v st is =
    let words = shown_words (now s d) v in
    let written = g.O.AnswerWriter.written in
    let old = c.args.page.now in
    let new = c.loop-index.page in
    subst (λ l. Puts (values_text c.args.digits c.args.shown.value_type l) old.has_failed new.has_failed (written old.writer) (written new.writer))
    (take_all c.loop-index.index words (omega (arith, is.count, c.loop-index-test.false))) (c.loop-index.invariant s d v st is)
