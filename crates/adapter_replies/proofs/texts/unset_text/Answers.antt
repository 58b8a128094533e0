use Rattle.std.proofs.Common.{◌≡◌, ◌∙◌, sym, subst, if◌then◌else◌, string_bytes, IfOk}
use Rattle.gang_model.specs.Texts.Text.{text}
use Rattle.adapter_replies.specs.Meanings.{bad_value, told_text}
use Rattle.adapter_replies.proofs.texts.unset_text.Goals as goal

pub returns : goal.returns
returns g c s at d meant st same stops means =
    let given = c.args.answer.now in
    let said = told_text given (text s meant d) in
    subst (λ is_bad. IfOk c.answer_text.result (λ told. string_bytes told ≡ (if is_bad then bad_value else said)))
    (sym (sym c.is_bad_command.ensures ∙ c.if-is_bad_command.false))
    (c.answer_text.ensures s at d meant st same stops means)
