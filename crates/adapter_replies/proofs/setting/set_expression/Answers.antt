use Rattle.std.proofs.Common.{IfOk, ◌∙◌, ap, subst}
use Rattle.adapter_replies.specs.Completions.{frame_or}
use Rattle.adapter_replies.specs.Told.{IsGivenTold}
use Rattle.adapter_replies.proofs.setting.set_expression.Goals as goal

pub returns-clause-stands : goal.returns-clause-stands
returns-clause-stands g c s d st =
    subst (λ deep. IfOk c.set_told.result (IsGivenTold s d c.args.last deep c.args.expression.now c.args.is_hexadecimal))
    (c.frame_or-depth.ensures ∙ ap (λ top. frame_or top c.args.frame) (c.depth_of.ensures s d st)) (c.set_told.ensures.stands s d st)
