use Rattle.std.proofs.Common.{sym, subst}
use Rattle.prompt_texts.specs.Shown.{Puts}
use Rattle.prompt_values.specs.Numbered.{printed_line}
use Rattle.prompt_values.proofs.GangWidths.{wide}
use Rattle.prompt_values.proofs.numbered.put_printed.Goals as goal

pub returns-in-Expression : goal.returns-in-Expression
returns-in-Expression g c =
    let written = g.O.AnswerWriter.written in
    let old = c.args.page.now in
    let new = c.show_expression.new.page in
    subst (λ value. Puts (printed_line c.args.digits value) old.has_failed new.has_failed (written old.writer) (written new.writer)) (sym c.in-Expression.is)
    (c.show_expression.ensures (wide c.in-Expression.value.value.lanes.width c.in-Expression.value.gang))
