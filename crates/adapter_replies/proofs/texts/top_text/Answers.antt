use Rattle.std.proofs.Common.{◌∙◌, sym, subst, ap}
use Rattle.std.proofs.lemmas.Result.{IfOk-weaker}
use Rattle.gang_model.specs.Debugger.Debugger.{now, part_shown, shown_words}
use Rattle.debug_traits.specs.Frames.{IsShownAt}
use Rattle.adapter_replies.specs.Variables.{values, words_at}
use Rattle.adapter_replies.proofs.TopFrame.{top_shown, top_state}
use Rattle.adapter_replies.proofs.texts.top_text.Goals as goal

pub returns : goal.returns
returns g c s d v st shown inside =
    let top = c.depth_of.ensures s d st in
    let form = c.args.form in
    let at = c.args.at in
    let there = subst (λ deep. IsShownAt s d deep v c.args.shown) (sym top) (top_shown s d v c.args.shown shown) in
    IfOk-weaker c.part_text.result _ _ (λ text is. is
    ∙ ap (λ deep. values form v.type (part_shown at (words_at s d deep v))) top
    ∙ ap (λ state. values form v.type (part_shown at (shown_words state v))) (top_state (now s d))) (c.part_text.ensures s d v st there inside)
