use Rattle.std.proofs.Common.{None, refl, sym, subst, ap, ◌∙◌}
use Rattle.prompt_texts.specs.Shown.{Puts}
use Rattle.prompt_values.specs.Forms.{form_option}
use Rattle.prompt_values.specs.FormsPrinted.{WritesForm}
use Rattle.prompt_values.specs.Numbered.{kept}
use Rattle.prompt_values.proofs.forms.print_formatted.Goals as goal

pub returns-in-Some : goal.returns-in-Some
returns-in-Some g c =
    let a = c.args in
    let written = g.O.AnswerWriter.written in
    let old = a.page.now in
    let new = c.print_form.new.page in
    subst (λ form. WritesForm (λ line. Puts line old.has_failed new.has_failed (written old.writer) (written new.writer)) form (kept a.values.now) c.print_form.result)
    (sym (sym c.form_named.ensures ∙ ap form_option c.in-Some.is)) c.print_form.ensures

pub returns-in-None : goal.returns-in-None
returns-in-None g c =
    let a = c.args in
    let written = g.O.AnswerWriter.written in
    let old = a.page.now in
    let new = c.tell_unspelled.new.page in
    subst (λ form. WritesForm (λ line. Puts line old.has_failed new.has_failed (written old.writer) (written new.writer)) form (kept a.values.now) None)
    (sym (sym c.form_named.ensures ∙ ap form_option c.in-None.is)) refl
