use Rattle.std.proofs.Common.{◌∙◌, sym, subst, ap}
use Rattle.gang_model.specs.Debugger.Debugger.{now}
use Rattle.gang_model.specs.Texts.Text.{text}
use Rattle.adapter_replies.specs.Asking.{asking_of}
use Rattle.adapter_replies.specs.Forms.{form_if}
use Rattle.adapter_replies.specs.Opened.{unless_refused}
use Rattle.adapter_replies.specs.Told.{IsAnsweredIn, IsPrinted, shown_values}
use Rattle.adapter_replies.proofs.Opening.{refused_opens_nothing}
use Rattle.adapter_replies.proofs.evaluating.evaluated.Goals as goal

pub returns-clause-stands : goal.returns-clause-stands
returns-clause-stands g c s d st =
    let given = c.args.answer in
    let told = c.in_ok-told.told in
    subst (λ b. IsPrinted b s d (asking_of c.args.line.context c.args.line.text.now c.args.line.is_hexadecimal) given told) (sym (sym c.is_expression.ensures ∙ c.if-is_expression.false))
    (c.in_ok-told.ensures.opens ∙ ap (unless_refused given) (c.in_ok-reference.ensures s d st) ∙ refused_opens_nothing s d given)

pub returns-clause-answered : goal.returns-clause-answered
returns-clause-answered g c s at d meant st same stops means =
    let given = c.args.answer in
    subst (λ b. IsAnsweredIn b c.args.line.context c.args.line.is_hexadecimal given (text s meant d) (shown_values (now s d) meant (form_if c.args.line.is_hexadecimal)) c.in_ok-told.told) (sym (sym c.is_expression.ensures ∙ c.if-is_expression.false))
    (c.in_ok-told.ensures.answered s at d meant st same stops means)
