use Rattle.std.proofs.Common.{◌∙◌, sym, subst, ap, Some, string_bytes}
use Rattle.gang_model.specs.Texts.Text.{text}
use Rattle.adapter_replies.specs.Stopped.{reason_of}
use Rattle.adapter_replies.specs.Told.{IsMoveTold, IsStopTold, MeansLast}
use Rattle.adapter_replies.proofs.replies.moved.Goals as goal

pub returns : goal.returns
returns g c s at d meant st same stops means =
    let given = c.in-Some.answer in
    let all = text s meant d in
    let told = c.told.result in
    let says = c.told.ensures ∙ ap (λ reason. Some (reason, string_bytes c.in_ok-text.text)) c.stop_of.ensures
    ∙ ap (λ words. Some (reason_of given, words)) (c.in_ok-text.ensures s at d meant st same stops (subst (λ last. MeansLast s d last meant) c.in-Some.is means)) in
    subst (λ last. IsMoveTold last all told) (sym c.in-Some.is) (subst (λ b. IsStopTold b given all told) (sym (sym c.is_ended.ensures ∙ c.if-is_ended.false)) says)
