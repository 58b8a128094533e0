use Rattle.std.proofs.Common.{List, ℕ, Option, Some, None, sym, subst, ◌∙◌}
use Rattle.std.specs.Prelude.{IfErr, IfOk}
use Rattle.std.proofs.lemmas.Bool.{true≢false}
use Rattle.gang_model.specs.Debugger.Debugger.{Debugger, Setting}
use Rattle.frame_values.specs.declared.values.ExpressionValue.{ExpressionValue}
use Rattle.frame_values.specs.Values.{HasNoValue, IsValueOf}
use Rattle.prompt_values.specs.declared.numbered.Printed.{Printed}
use Rattle.prompt_values.specs.declared.numbered.Printed.TheVariants as printed
use Rattle.prompt_values.specs.Numbered.{IsExpressionOrNone}
use Rattle.prompt_values.specs.Printed.{IsPrintedOf}
use Rattle.prompt_values.proofs.GangWidths.{narrow}
use Rattle.prompt_values.proofs.expressions.print_value.Goals as goal

-- what is given of a text's value is what was printed of it
printed_of : (text : List ℕ) (s : Setting) (d : Debugger) (deep : ℕ) (value : ExpressionValue) (given : Option Printed)
    → IsExpressionOrNone value given → IsValueOf text s d deep value → IsPrintedOf text s d deep given
printed_of text s d deep value None none is = absurd (true≢false (sym (narrow value.lanes.width is.lanes.gang) ∙ none))
printed_of text s d deep value (Some (printed.Told told)) none is = absurd none
printed_of text s d deep value (Some (printed.Expression e)) same is = subst (IsValueOf text s d deep) (sym same) is

pub returns-in-Ok-clause-value : goal.returns-in-Ok-clause-value
returns-in-Ok-clause-value g c s d st =
    let a = c.args in
    printed_of a.written.now s d a.depth c.in-Ok.value c.put_value.result c.put_value.ensures.value
    (subst (λ r. IfOk r (IsValueOf a.written.now s d a.depth)) c.in-Ok.is (c.value_of_expression.ensures.value s d st))

pub returns-in-Err-clause-value : goal.returns-in-Err-clause-value
returns-in-Err-clause-value g c s d st =
    let a = c.args in
    (c.in-Err.why, subst (λ r. IfErr r (HasNoValue a.written.now s d a.depth)) c.in-Err.is (c.value_of_expression.ensures.none s d st))
