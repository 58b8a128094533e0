use Rattle.std.proofs.Common.{◌∙◌, sym, subst, ap, Some, string_bytes}
use Rattle.gang_model.specs.Texts.Text.{text}
use Rattle.adapter_replies.specs.Stopped.{goto_reason}
use Rattle.adapter_replies.specs.Told.{IsGotoTold, MeansLast}
use Rattle.adapter_replies.proofs.replies.gone.Goals as goal

pub returns : goal.returns
returns g c s at d meant st same stops means =
    let given = c.in-Some.answer in
    subst (λ last. IsGotoTold last (text s meant d) c.told.result) (sym c.in-Some.is)
    (c.told.ensures ∙ ap (λ reason. Some (reason, string_bytes c.in_ok-text.text)) c.goto_reason.ensures
    ∙ ap (λ words. Some (goto_reason given, words)) (c.in_ok-text.ensures s at d meant st same stops (subst (λ last. MeansLast s d last meant) c.in-Some.is means)))
