use Rattle.std.proofs.Common.{◌≡◌, ℕ, List, sym, subst, ap, ◌∙◌}
use Rattle.gang_model.specs.Texts.CommandText.{command_of}
use Rattle.prompt_scenes.specs.Readings.{print_of}
use Rattle.prompt_texts.specs.Shown.{Puts}
use Rattle.debug_commands.specs.TargetViews.{target_option}
use Rattle.prompt_values.specs.FormsPrinted.{IsWrittenOf, target_of}
use Rattle.prompt_values.proofs.WrittenForms.{of_text}
use Rattle.prompt_values.proofs.forms.print_named_form.Goals as goal

pub returns-in-Some : goal.returns-in-Some
returns-in-Some g c =
    let a = c.args in
    let written = g.O.AnswerWriter.written in
    let old = a.page.now in
    let new = c.print_target.new.page in
    let is : target_of a.form.text.now ≡ target_option c.print_of.result =
    sym (c.print_of.ensures ∙ ap (λ t. print_of (command_of t)) (c.as_slice.ensures.value ∙ c.printing_line-line.ensures)) in
    subst (λ target. IsWrittenOf (λ line. Puts line old.has_failed new.has_failed (written old.writer) (written new.writer)) target a.form.text.now a.form.digits c.print_target.result)
    (sym (is ∙ ap target_option c.in-Some.is)) c.print_target.ensures

pub returns-in-None : goal.returns-in-None
returns-in-None g c =
    let a = c.args in
    let written = g.O.AnswerWriter.written in
    let old = a.page.now in
    let new = c.print_written.new.page in
    let puts = λ (line : List ℕ). Puts line old.has_failed new.has_failed (written old.writer) (written new.writer) in
    let is : target_of a.form.text.now ≡ target_option c.print_of.result =
    sym (c.print_of.ensures ∙ ap (λ t. print_of (command_of t)) (c.as_slice.ensures.value ∙ c.printing_line-line.ensures)) in
    subst (λ target. IsWrittenOf puts target a.form.text.now a.form.digits c.print_written.result)
    (sym (is ∙ ap target_option c.in-None.is)) (of_text puts a.form.text.now a.form.digits c.print_written.result c.print_written.ensures.written)
