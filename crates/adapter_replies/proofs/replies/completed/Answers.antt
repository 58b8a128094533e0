use Rattle.std.proofs.Common.{IfOk, ◌∙◌, ap, subst}
use Rattle.adapter_replies.specs.Columns.{front}
use Rattle.adapter_replies.specs.Completions.{frame_or}
use Rattle.adapter_replies.specs.Told.{AreCompletionsToldIn}
use Rattle.adapter_replies.proofs.replies.completed.Goals as goal

pub returns : goal.returns
returns g c s d st =
    let before = front c.args.text.now c.args.column in
    subst (λ deep. IfOk c.completed_at.result (AreCompletionsToldIn s d deep before)) (c.frame_or-depth.ensures ∙ ap (λ top. frame_or top c.args.frame) (c.depth_of.ensures s d st))
    (subst (λ text. IfOk c.completed_at.result (AreCompletionsToldIn s d c.frame_or-depth.result text)) c.front_of.ensures (c.completed_at.ensures s d st))
