use Rattle.debug_commands.specs.Views.{target_view}
use Rattle.prompt_texts.specs.Shown.{Puts}
use Rattle.prompt_values.proofs.WrittenForms.{of_target}
use Rattle.prompt_values.proofs.forms.print_found.Goals as goal

pub returns-in-Ok : goal.returns-in-Ok
returns-in-Ok g c =
    let a = c.args in
    let written = g.O.AnswerWriter.written in
    let old = a.page.now in
    let new = c.print_shown.new.page in
    of_target (λ line. Puts line old.has_failed new.has_failed (written old.writer) (written new.writer)) a.form.text.now a.form.digits (target_view a.target) c.print_shown.result c.print_shown.ensures
