use Rattle.std.proofs.Common.{None, refl, sym, subst, ◌∙◌}
use Rattle.prompt_texts.specs.Shown.{Puts}
use Rattle.prompt_values.specs.Forms.{form_view}
use Rattle.prompt_values.specs.FormsPrinted.{WritesBy}
use Rattle.prompt_values.specs.Numbered.{kept}
use Rattle.prompt_values.proofs.forms.print_form.Goals as goal

pub returns-in-Some : goal.returns-in-Some
returns-in-Some g c =
    let a = c.args in
    let written = g.O.AnswerWriter.written in
    let old = a.page.now in
    let new = c.show.new.page in
    subst (λ name. WritesBy (λ line. Puts line old.has_failed new.has_failed (written old.writer) (written new.writer)) name (form_view a.form) (kept a.values.now) None)
    (sym (sym c.value_name.ensures ∙ c.in-Some.is)) (c.show.ensures, refl)

pub returns-in-None : goal.returns-in-None
returns-in-None g c =
    let a = c.args in
    let written = g.O.AnswerWriter.written in
    let old = a.page.now in
    let new = c.print_named_form.new.page in
    subst (λ name. WritesBy (λ line. Puts line old.has_failed new.has_failed (written old.writer) (written new.writer)) name (form_view a.form) (kept a.values.now) c.print_named_form.result)
    (sym (sym c.value_name.ensures ∙ c.in-None.is)) c.print_named_form.ensures
