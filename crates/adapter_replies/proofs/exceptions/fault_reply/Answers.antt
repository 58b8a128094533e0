use Rattle.std.proofs.Common.{◌∙◌, ap}
use Rattle.std.specs.Prelude.{find}
use Rattle.std.proofs.lemmas.Result.{IfOk-weaker}
use Rattle.refusal_pages.specs.Pages.{headings, is_named}
use Rattle.adapter_replies.proofs.exceptions.fault_reply.Goals as goal

pub returns : goal.returns
returns c =
    IfOk-weaker c.described.result _ _ (λ told is. record {
      page = c.page_of-page.result;
      found = c.page_of-page.ensures ∙ ap (λ number. find (is_named number) headings) (c.as_bytes.ensures.value ∙ c.fault_number.ensures);
      is = is;
    }) c.described.ensures
