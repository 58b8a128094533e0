use Rattle.std.proofs.Common.{sym, subst, arith}
use Rattle.std.specs.Prelude.{flat_map}
use Rattle.std.proofs.lemmas.List.{take_all}
use Rattle.typed_tree.specs.declared.program.Function.{Function}
use Rattle.prompt_texts.specs.Shown.{Puts}
use Rattle.prompt_texts.proofs.Putting.{flat_more, puts_both}
use Rattle.prompt_values.specs.Functions.{function_line}
use Rattle.prompt_values.proofs.functions.put_functions.Goals as goal

pub loop-place-preserved : goal.loop-place-preserved
loop-place-preserved g c =
    let text = λ (f : Function). function_line c.args.part.now c.args.source.now f.name.items in
    let functions = c.args.functions.now in
    let place = c.loop-place.place in
    let written = g.O.AnswerWriter.written in
    let old = c.args.page.now in
    let new = c.put_function.new.page in
    let middle = c.loop-place.page in
    let f = c.index-functions-place.result in
    let one = subst (λ name. Puts (function_line c.args.part.now c.args.source.now name) middle.has_failed new.has_failed (written middle.writer) (written new.writer))
    c.as_slice.ensures.value c.put_function.ensures in
    subst (λ t. Puts t old.has_failed new.has_failed (written old.writer) (written new.writer)) (sym (flat_more text functions place f c.loop-place-test.true))
    (puts_both _ _ _ _ _ _ _ _ c.loop-place.invariant one)

pub returns : goal.returns
returns g c =
    let text = λ (f : Function). function_line c.args.part.now c.args.source.now f.name.items in
    let functions = c.args.functions.now in
    let written = g.O.AnswerWriter.written in
    let old = c.args.page.now in
    let new = c.loop-place.page in
    subst (λ l. Puts (flat_map text l) old.has_failed new.has_failed (written old.writer) (written new.writer))
    (take_all c.loop-place.place functions (omega (arith, c.loop-place-test.false))) c.loop-place.invariant
