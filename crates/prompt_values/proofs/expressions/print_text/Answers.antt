use Rattle.std.proofs.Common.{None, refl, sym, subst, ◌∙◌}
use Rattle.prompt_texts.specs.Shown.{Puts}
use Rattle.prompt_scenes.specs.Holding.{held}
use Rattle.prompt_scenes.specs.SelectedFrame.{depth_of}
use Rattle.prompt_values.specs.Numbered.{kept}
use Rattle.prompt_values.specs.Printed.{PrintsNamed, WritesNamed}
use Rattle.prompt_values.proofs.expressions.print_text.Goals as goal

pub returns-in-Some-clause-written : goal.returns-in-Some-clause-written
returns-in-Some-clause-written g c =
    let a = c.args in
    let written = g.O.AnswerWriter.written in
    let old = a.page.now in
    let new = c.show.new.page in
    subst (λ name. WritesNamed (λ line. Puts line old.has_failed new.has_failed (written old.writer) (written new.writer)) name a.written.now a.digits (kept a.values.now) None)
    (sym (sym c.value_name.ensures ∙ c.in-Some.is)) (c.show.ensures, refl)

pub returns-in-Some-clause-value : goal.returns-in-Some-clause-value
returns-in-Some-clause-value g c s d st =
    let a = c.args in
    subst (λ name. PrintsNamed name a.written.now s d (depth_of s d (held a.holding.now)) None) (sym (sym c.value_name.ensures ∙ c.in-Some.is)) tt

pub returns-in-None-clause-written : goal.returns-in-None-clause-written
returns-in-None-clause-written g c =
    let a = c.args in
    let written = g.O.AnswerWriter.written in
    let old = a.page.now in
    let new = c.print_written.new.page in
    subst (λ name. WritesNamed (λ line. Puts line old.has_failed new.has_failed (written old.writer) (written new.writer)) name a.written.now a.digits (kept a.values.now) c.print_written.result)
    (sym (sym c.value_name.ensures ∙ c.in-None.is)) c.print_written.ensures.written

pub returns-in-None-clause-value : goal.returns-in-None-clause-value
returns-in-None-clause-value g c s d st =
    let a = c.args in
    subst (λ name. PrintsNamed name a.written.now s d (depth_of s d (held a.holding.now)) c.print_written.result) (sym (sym c.value_name.ensures ∙ c.in-None.is)) (c.print_written.ensures.value s d st)
