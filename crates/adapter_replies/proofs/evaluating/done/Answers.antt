use Rattle.std.proofs.Common.{IfOk, Option, None, Some, ap, subst, sym, ◌∙◌}
use Rattle.std.specs.Prelude.{◌||◌, is_some}
use Rattle.gang_model.specs.Debugger.Debugger.{Target, depth, now}
use Rattle.gang_model.specs.Texts.Text.{text}
use Rattle.debug_commands.specs.TargetViews.{target_option}
use Rattle.debug_commands.specs.Views.{target_view}
use Rattle.adapter_replies.specs.Completions.{frame_or}
use Rattle.adapter_replies.specs.Forms.{form_if}
use Rattle.adapter_replies.specs.Told.{IsAnsweredIn, IsDoneTold, IsSetLineTold, is_expression, shown_values}
use Rattle.adapter_replies.proofs.evaluating.done.Goals as goal

pub returns-in-Some-clause-stands : goal.returns-in-Some-clause-stands
returns-in-Some-clause-stands g c s d st =
    let line = c.args.line in
    let target = target_view c.in-Some.target in
    subst (λ (unsaid : Option Target). IfOk c.set_line.result (IsDoneTold unsaid s d (frame_or (depth (now s d)) c.args.frame) line.context line.text.now line.is_hexadecimal c.args.answer))
    (ap target_option (sym c.in-Some.is) ∙ c.set_unsaid.ensures)
    (subst (λ deep. IfOk c.set_line.result (IsSetLineTold s d deep line.text.now line.is_hexadecimal target))
    (c.frame_or-depth.ensures ∙ ap (λ top. frame_or top c.args.frame) (c.depth_of.ensures s d st)) (c.set_line.ensures s d st))

pub returns-in-None-clause-answered : goal.returns-in-None-clause-answered
returns-in-None-clause-answered g c s at d meant st same stops means =
    let line = c.args.line in
    let given = c.args.answer in
    subst
    (λ (unsaid : Option Target). IfOk c.evaluated.result (IsAnsweredIn (is_some unsaid || is_expression line.context line.text.now given) line.context line.is_hexadecimal given (text s meant d) (shown_values (now s d) meant (form_if line.is_hexadecimal))))
    (ap target_option (sym c.in-None.is) ∙ c.set_unsaid.ensures) (c.evaluated.ensures.answered s at d meant st same stops means)
