use Rattle.std.proofs.Common.{◌≡◌, ◌∙◌, sym, subst, ap, option_map, string_bytes, None, Some, IfOk}
use Rattle.std.specs.Prelude.{is_some}
use Rattle.std.proofs.lemmas.Result.{IfOk-weaker}
use Rattle.gang_model.specs.Debugger.Debugger.{now}
use Rattle.gang_model.specs.Texts.Text.{text}
use Rattle.adapter_requests.specs.declared.reply.Reply.TheVariants as reply
use Rattle.adapter_replies.specs.Forms.{form_if}
use Rattle.adapter_replies.specs.References.{place_of}
use Rattle.adapter_replies.specs.Told.{IsAnswerTold, shown_option, shown_values}
use Rattle.adapter_replies.proofs.ShownAnswers.{line_alone, opens_what_is_shown, values_told}
use Rattle.adapter_replies.proofs.evaluating.answered.Goals as goal

pub returns-then-is_told_whole-clause-answered : goal.returns-then-is_told_whole-clause-answered
returns-then-is_told_whole-clause-answered g c s at d meant st same stops means =
    subst
    (λ is_whole. IfOk c.line_of.result (IsAnswerTold is_whole c.args.line.context c.args.answer (text s meant d) (shown_values (now s d) meant (form_if c.args.line.is_hexadecimal))))
    (sym c.if-is_told_whole.true ∙ c.is_told_whole.ensures)
    (c.line_of.ensures.answered s at d meant st same stops means)

pub returns-in-None-clause-answered : goal.returns-in-None-clause-answered
returns-in-None-clause-answered g c s at d meant st same stops means =
    let given = c.args.answer in
    let context = c.args.line.context in
    let all = text s meant d in
    let shown = shown_values (now s d) meant (form_if c.args.line.is_hexadecimal) in
    let none = ap (option_map string_bytes) (sym c.in-None.is)
    ∙ c.in_ok-values_of.ensures.values s at d meant st same means
    ∙ ap (λ form. shown_option given (shown_values (now s d) meant form)) c.form_if.ensures in
    subst (λ is_whole. IfOk c.line_of-in-None.result (IsAnswerTold is_whole context given all shown)) (sym c.if-is_told_whole.false ∙ c.is_told_whole.ensures)
    (IfOk-weaker c.line_of-in-None.result _ _ (λ told line. line_alone context given all shown told none line) (c.line_of-in-None.ensures.answered s at d meant st same stops means))

pub returns-in_ok-text-in-Some-clause-answered : goal.returns-in_ok-text-in-Some-clause-answered
returns-in_ok-text-in-Some-clause-answered g c s at d meant st same stops means =
    let given = c.args.answer in
    let context = c.args.line.context in
    let all = text s meant d in
    let shown = shown_values (now s d) meant (form_if c.args.line.is_hexadecimal) in
    let told = reply.Evaluated c.in_ok-text-in-Some.text None c.args.reference in
    let some = ap (option_map string_bytes) (sym c.in-Some.is)
    ∙ c.in_ok-values_of.ensures.values s at d meant st same means
    ∙ ap (λ form. shown_option given (shown_values (now s d) meant form)) c.form_if.ensures in
    subst (λ is_whole. IsAnswerTold is_whole context given all shown told) (sym c.if-is_told_whole.false ∙ c.is_told_whole.ensures)
    (values_told context given all shown (string_bytes c.in-Some.values) told some (ap (λ words. Some (None, words)) c.in_ok-text-in-Some.ensures))

pub returns-in_ok-text-in-Some-clause-opens : goal.returns-in_ok-text-in-Some-clause-opens
returns-in_ok-text-in-Some-clause-opens g c =
    sym (opens_what_is_shown c.args.answer (place_of c.args.reference) (ap is_some (sym c.in-Some.is) ∙ c.in_ok-values_of.ensures.shown))
