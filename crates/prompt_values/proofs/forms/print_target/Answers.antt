use Rattle.std.proofs.Common.{Some, subst}
use Rattle.std.specs.Prelude.{IfOk}
use Rattle.debug_commands.specs.Views.{target_view}
use Rattle.prompt_texts.specs.Shown.{Puts}
use Rattle.prompt_values.specs.FormsPrinted.{IsWrittenOf}
use Rattle.prompt_values.proofs.forms.print_target.Goals as goal

pub returns-in-Ok : goal.returns-in-Ok
returns-in-Ok g c =
    let a = c.args in
    let written = g.O.AnswerWriter.written in
    let old = a.page.now in
    let new = c.print_found.new.page in
    subst (λ r. IfOk r (IsWrittenOf (λ line. Puts line old.has_failed new.has_failed (written old.writer) (written new.writer)) (Some (target_view a.target)) a.form.text.now a.form.digits))
    c.in-Ok.is c.print_found.ensures
