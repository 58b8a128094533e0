use Rattle.std.proofs.Common.{sym, subst, arith}
use Rattle.std.specs.Prelude.{flat_map}
use Rattle.std.proofs.lemmas.List.{take_all}
use Rattle.prompt_texts.specs.Items.{item_text}
use Rattle.prompt_texts.specs.Shown.{Puts}
use Rattle.prompt_texts.proofs.Putting.{flat_more, puts_both}
use Rattle.prompt_texts.proofs.items.put_line.Goals as goal

pub loop-place-preserved : goal.loop-place-preserved
loop-place-preserved g c =
    let text = item_text c.args.digits c.args.value_type in
    let items = c.args.items.now in
    let place = c.loop-place.place in
    let written = g.O.AnswerWriter.written in
    let old = c.args.page.now in
    let new = c.put_item.new.page in
    subst (λ t. Puts t old.has_failed new.has_failed (written old.writer) (written new.writer)) (sym (flat_more text items place _ c.loop-place-test.true))
    (puts_both _ _ _ _ _ _ _ _ c.loop-place.invariant c.put_item.ensures)

pub returns : goal.returns
returns g c =
    let text = item_text c.args.digits c.args.value_type in
    let items = c.args.items.now in
    let written = g.O.AnswerWriter.written in
    let old = c.args.page.now in
    let new = c.loop-place.page in
    subst (λ l. Puts (flat_map text l) old.has_failed new.has_failed (written old.writer) (written new.writer))
    (take_all c.loop-place.place items (omega (arith, c.loop-place-test.false))) c.loop-place.invariant
