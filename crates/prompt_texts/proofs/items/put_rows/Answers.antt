use Rattle.std.proofs.Common.{sym, subst, arith}
use Rattle.std.proofs.lemmas.List.{take_all}
use Rattle.prompt_texts.specs.Items.{rows_text}
use Rattle.prompt_texts.specs.Shown.{Puts}
use Rattle.prompt_texts.proofs.Putting.{puts_both}
use Rattle.prompt_texts.proofs.Rows.{rows_more}
use Rattle.prompt_texts.proofs.items.put_rows.Goals as goal

pub loop-place-preserved : goal.loop-place-preserved
loop-place-preserved g c =
    let a = c.args in
    let items = a.items.now in
    let place = c.loop-place.place in
    let written = g.O.AnswerWriter.written in
    let old = a.page.now in
    let new = c.put_item.new.page in
    subst (λ t. Puts t old.has_failed new.has_failed (written old.writer) (written new.writer)) (sym (rows_more a.digits a.value_type a.size items place _ c.loop-place-test.true))
    (puts_both _ _ _ _ _ _ _ _ c.loop-place.invariant (puts_both _ _ _ _ _ _ _ _ c.put_head.ensures c.put_item.ensures))

pub returns : goal.returns
returns g c =
    let a = c.args in
    let items = a.items.now in
    let written = g.O.AnswerWriter.written in
    let old = a.page.now in
    let new = c.loop-place.page in
    subst (λ l. Puts (rows_text a.digits a.value_type a.size 0 l) old.has_failed new.has_failed (written old.writer) (written new.writer))
    (take_all c.loop-place.place items (omega (arith, c.loop-place-test.false))) c.loop-place.invariant
