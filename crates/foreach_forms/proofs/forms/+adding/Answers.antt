use Rattle.std.proofs.Common.{◌≡◌, ◌+◌, ◌++◌, arith, sym, subst}
use Rattle.std.specs.Prelude.{IfOk}
use Rattle.std.proofs.lemmas.Result.{IfOk-weaker}
use Rattle.gang_model.specs.Running.Step.{steps_of}
use Rattle.typed_tree.specs.Views.{segments_view}
use Rattle.typed_tree.proofs.StatementRows.{switch_is}
use Rattle.mask_lowering.proofs.Rows.{block_is}
use Rattle.foreach_forms.specs.Forms.{forms_in, lines_at}
use Rattle.foreach_forms.proofs.forms.+adding.Goals as goal

pub add-returns-in-Block-clause-steps : goal.add-returns-in-Block-clause-steps
add-returns-in-Block-clause-steps t c =
    let e = block_is c.args.statement.now c.in-Block.statements c.deref.result.now c.in-Block.is c.deref.ensures.value in
    subst (λ s. IfOk c.add_all.result (λ sum. sum ≡ c.args.count + steps_of s)) (sym e) c.add_all.ensures.steps

pub add-returns-in-Block-clause-forms : goal.add-returns-in-Block-clause-forms
add-returns-in-Block-clause-forms t c =
    let e = block_is c.args.statement.now c.in-Block.statements c.deref.result.now c.in-Block.is c.deref.ensures.value in
    subst (λ s. IfOk c.add_all.result (λ _. c.add_all.new.forms.items ≡ c.args.forms.now.items ++ forms_in c.args.function (lines_at c.args.standings.now) s)) (sym e) c.add_all.ensures.forms

pub add-returns-in_ok-one_more-in-Switch-clause-steps :
    goal.add-returns-in_ok-one_more-in-Switch-clause-steps
add-returns-in_ok-one_more-in-Switch-clause-steps t c =
    let e = switch_is c.args.statement.now c.in-Switch.step c.in-Switch.selector c.in-Switch.segments c.deref-in-Switch.result.now c.in-Switch.is c.deref-in-Switch.ensures.value in
    let steps = steps_of (segments_view c.deref-in-Switch.result.now) in
    let one : c.in_ok-one_more-in-Switch.field-0 ≡ c.args.count + 1 = c.in_ok-one_more-in-Switch.ensures in
    subst (λ s. IfOk c.add_segments.result (λ sum. sum ≡ c.args.count + steps_of s)) (sym e)
    (IfOk-weaker c.add_segments.result (λ sum. sum ≡ c.in_ok-one_more-in-Switch.field-0 + steps) (λ sum. sum ≡ c.args.count + (1 + steps)) (λ sum is. omega (arith, is, one)) c.add_segments.ensures.steps)

pub add-returns-in_ok-one_more-in-Switch-clause-forms :
    goal.add-returns-in_ok-one_more-in-Switch-clause-forms
add-returns-in_ok-one_more-in-Switch-clause-forms t c =
    let e = switch_is c.args.statement.now c.in-Switch.step c.in-Switch.selector c.in-Switch.segments c.deref-in-Switch.result.now c.in-Switch.is c.deref-in-Switch.ensures.value in
    subst (λ s. IfOk c.add_segments.result (λ _. c.add_segments.new.forms.items ≡ c.args.forms.now.items ++ forms_in c.args.function (lines_at c.args.standings.now) s)) (sym e) c.add_segments.ensures.forms
