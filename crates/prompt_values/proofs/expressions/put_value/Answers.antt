use Rattle.std.proofs.Common.{◌≡◌, List, [], ℕ, Option, Some, None, ap, append_assoc, ◌∙◌, sym, subst}
use Rattle.std.specs.Prelude.{◌++◌, codes}
use Rattle.gang_types.specs.Masks.{IsGangWidth}
use Rattle.frame_values.specs.declared.values.ExpressionValue.{ExpressionValue}
use Rattle.value_digits.specs.declared.digits.Digits.{Digits}
use Rattle.prompt_texts.specs.Forms.{expression_line, expression_text}
use Rattle.prompt_texts.specs.Shown.{Puts, masked}
use Rattle.prompt_values.specs.declared.numbered.Printed.{Printed}
use Rattle.prompt_values.specs.declared.numbered.Printed.TheVariants as printed
use Rattle.prompt_values.specs.Numbered.{IsExpressionOrNone}
use Rattle.prompt_values.specs.Printed.{IsLineOf}
use Rattle.prompt_values.proofs.GangWidths.{wide}
use Rattle.prompt_values.proofs.expressions.put_value.Goals as goal

-- the line of a value behind what was typed
behind : (typed : List ℕ) (digits : Digits) (value : ExpressionValue) → expression_line digits typed value ≡ masked typed ++ expression_line digits [] value
behind typed digits value =
    ap (λ (l : List ℕ). l ++ codes "\n") (append_assoc (masked typed) (codes " =") (expression_text digits value)) ∙ append_assoc (masked typed) (codes " =" ++ expression_text digits value) (codes "\n")

-- what is given of a value is written by its line
line_of : (puts : List ℕ → Type 0) (typed : List ℕ) (digits : Digits) (value : ExpressionValue) (given : Option Printed)
    → IsExpressionOrNone value given → (IsGangWidth value.lanes.width → puts (expression_line digits typed value)) → IsLineOf puts typed digits given
line_of puts typed digits value None none shows = tt
line_of puts typed digits value (Some (printed.Told told)) none shows = absurd none
line_of puts typed digits value (Some (printed.Expression e)) is shows =
    subst (λ v. puts (masked typed ++ expression_line digits [] v)) (sym is) (subst puts (behind typed digits value) (shows (subst (λ v. IsGangWidth v.lanes.width) is (wide e.value.lanes.width e.gang))))

pub returns-clause-written : goal.returns-clause-written
returns-clause-written g c =
    let a = c.args in
    let written = g.O.AnswerWriter.written in
    let old = a.page.now in
    let new = c.show_expression.new.page in
    line_of (λ line. Puts line old.has_failed new.has_failed (written old.writer) (written new.writer)) a.typed.now a.digits a.value c.of_expression.result c.of_expression.ensures c.show_expression.ensures
