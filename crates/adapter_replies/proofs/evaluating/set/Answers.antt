use Rattle.std.proofs.Common.{◌≡◌, ◌∙◌, sym, subst, ap, is_some, option_map, string_bytes, None, Some}
use Rattle.gang_model.specs.Debugger.Debugger.{now}
use Rattle.gang_model.specs.Texts.Text.{text}
use Rattle.adapter_requests.specs.declared.reply.Reply.TheVariants as reply
use Rattle.adapter_replies.specs.Forms.{form_if}
use Rattle.adapter_replies.specs.Told.{IsOpenedBy, IsSetTold, MeansLast, shown_option, shown_values}
use Rattle.adapter_replies.proofs.ShownAnswers.{not_set, nothing_opens, set_to}
use Rattle.adapter_replies.proofs.evaluating.set.Goals as goal

pub returns-in_ok-opened_by-in-Some-2-clause-answered : goal.returns-in_ok-opened_by-in-Some-2-clause-answered
returns-in_ok-opened_by-in-Some-2-clause-answered g c s at d meant st same stops means =
    let given = c.in-Some.answer in
    let all = text s meant d in
    let shown = shown_values (now s d) meant (form_if c.args.is_hexadecimal) in
    let some = ap (option_map string_bytes) (sym c.in-Some-2.is)
    ∙ c.in_ok-text.ensures.values s at d meant st same (subst (λ last. MeansLast s d last meant) c.in-Some.is means)
    ∙ ap (λ form. shown_option given (shown_values (now s d) meant form)) c.form_if.ensures in
    subst (λ last. IsSetTold last all shown (reply.Set c.in-Some-2.text c.in_ok-opened_by-in-Some-2.field-0)) (sym c.in-Some.is)
    (set_to given all shown c.in-Some-2.text c.in_ok-opened_by-in-Some-2.field-0 some)

pub returns-in_ok-unset_text-in-None-clause-answered : goal.returns-in_ok-unset_text-in-None-clause-answered
returns-in_ok-unset_text-in-None-clause-answered g c s at d meant st same stops means =
    let given = c.in-Some.answer in
    let all = text s meant d in
    let shown = shown_values (now s d) meant (form_if c.args.is_hexadecimal) in
    let told = reply.Refused c.in_ok-unset_text-in-None.field-0 in
    let meaning = subst (λ last. MeansLast s d last meant) c.in-Some.is means in
    let none = ap (option_map string_bytes) (sym c.in-None.is)
    ∙ c.in_ok-text.ensures.values s at d meant st same meaning
    ∙ ap (λ form. shown_option given (shown_values (now s d) meant form)) c.form_if.ensures in
    subst (λ last. IsSetTold last all shown told) (sym c.in-Some.is)
    (not_set given all shown told none (ap (λ words. Some (None, words)) (c.in_ok-unset_text-in-None.ensures s at d meant st same stops meaning)))

pub returns-in_ok-unset_text-in-None-clause-opens : goal.returns-in_ok-unset_text-in-None-clause-opens
returns-in_ok-unset_text-in-None-clause-opens g c s d st =
    let told = reply.Refused c.in_ok-unset_text-in-None.field-0 in
    subst (λ last. IsOpenedBy s d last told) (sym c.in-Some.is) (nothing_opens s d c.in-Some.answer (sym c.in_ok-text.ensures.shown ∙ ap is_some c.in-None.is))
