use Rattle.std.proofs.Common.{◌++◌, ◌∙◌, ap, codes, decimal}
use Rattle.std.proofs.lemmas.Result.{IfOk-weaker}
use Rattle.adapter_replies.proofs.expressions.refusal_text.Goals as goal

pub returns : goal.returns
returns c =
    IfOk-weaker c.format.result _ _ (λ text is. is ∙ ap (λ name. name ++ (codes ", column " ++ (decimal c.args.place.col ++ (codes ": " ++ c.args.meaning.now)))) c.refusal_name-name.ensures)
    c.format.ensures.ok
